-- The loop's invariant: all n slots are good just where those from the i-th on are.
use Rattle.std.specs.Prelude.{◌≡◌, ◌+◌, ◌-◌}
use Rattle.state.specs.Numbers.{slots_good}
use Rattle.state.proofs.checks.slots_good.Given as goal

abbrev pub invariant-loop-i : goal.invariant-loop-i
invariant-loop-i l =
    slots_good l.shape l.history l.k l.n ≡ slots_good l.shape l.history (l.k + l.i) (l.n - l.i)
