-- `fast::lanes::components` meets its contract. The loop's invariant: the first k lanes of both arrays are filled.
use mathlib.Core.Path.{◌≡◌}
use Rattle.arith.specs.Splice.{over}
use Rattle.arith.specs.Tabulate.{tab}
use Rattle.fast.specs.Lanes.{across_at, down_at}
use Rattle.fast.proofs.lanes.components.Given as goal

abbrev pub invariant-loop-k : goal.invariant-loop-k
invariant-loop-k l =
    (l.vx ≡ over (tab (across_at l.set l.start) l.k) l.initial.vx) × (l.vy ≡ over (tab (down_at l.set l.start) l.k) l.initial.vy)
