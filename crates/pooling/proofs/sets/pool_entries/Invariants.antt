-- `pooling::sets::pool_entries` meets its contract: eight more bytes at each turn.
use Rattle.std.proofs.Common.{◌≡◌, ◌*◌}
use Rattle.arith.specs.Splice.{over}
use Rattle.arith.specs.Tabulate.{tab}
use Rattle.pooling.specs.Pool.{kept_byte}
use Rattle.pooling.proofs.sets.pool_entries.Given as goal

abbrev pub invariant-loop-i : goal.invariant-loop-i
invariant-loop-i l = l.set ≡ over (tab (kept_byte l.first l.second) (8 * l.i)) l.initial.set
