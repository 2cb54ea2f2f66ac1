-- `fast::lanes::scale_lanes` meets its contract. The loop's invariant: the first k lanes are filled.
use mathlib.Core.Path.{◌≡◌}
use Rattle.arith.specs.Splice.{over}
use Rattle.arith.specs.Tabulate.{tab}
use Rattle.fast.specs.Lanes.{scaled_at}
use Rattle.fast.proofs.lanes.scale_lanes.Given as goal

abbrev pub invariant-loop-k : goal.invariant-loop-k
invariant-loop-k l = l.t ≡ over (tab (scaled_at l.v l.time l.shift) l.k) l.initial.t
