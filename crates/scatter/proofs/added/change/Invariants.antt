-- `scatter::added::change` meets its contract. The loop's invariant: the first k cells have been changed.
use Rattle.std.proofs.Common.{◌≡◌, ℤ}
use Rattle.scatter.specs.Added.{Computes, changed}
use Rattle.scatter.proofs.added.change.Given as goal

abbrev pub invariant-loop-k : goal.invariant-loop-k
invariant-loop-k g l = goal.F-IsAlwaysCallable g l.change × ((op : ℤ → ℤ → ℤ) → Computes (goal.F-post g l.change) op → l.grid ≡ changed op l.c l.initial.grid l.k)
