-- `fast::lanes::floor_lanes` meets its contract. The loop's invariant: the first k lanes are filled.
use mathlib.Core.Path.{◌≡◌}
use Rattle.arith.specs.Splice.{over}
use Rattle.arith.specs.Tabulate.{tab}
use Rattle.fast.specs.Lanes.{floored_at}
use Rattle.fast.proofs.lanes.floor_lanes.Given as goal

abbrev pub invariant-loop-k : goal.invariant-loop-k
invariant-loop-k l = l.q ≡ over (tab (floored_at l.t l.step.divisor) l.k) l.initial.q
