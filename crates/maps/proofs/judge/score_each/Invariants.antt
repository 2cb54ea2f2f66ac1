-- `maps::judge::score_each` meets its contract: the first j scores are filled.
use Rattle.std.proofs.Common.{◌≡◌, ℕ, ◌+◌}
use Rattle.arith.specs.Splice.{over}
use Rattle.arith.specs.Tabulate.{tab}
use Rattle.maps.specs.Map.{score_at}
use Rattle.maps.proofs.judge.score_each.Given as goal

abbrev pub invariant-loop-j : goal.invariant-loop-j
invariant-loop-j l = l.scores ≡ over (tab (λ (x : ℕ). score_at l.set l.averages (l.start + x)) l.j) l.initial.scores
