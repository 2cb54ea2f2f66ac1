-- `maps::luma::fill_averages` meets its contract: the first i averages are written.
use Rattle.std.proofs.Common.{◌≡◌}
use Rattle.arith.specs.Splice.{over}
use Rattle.arith.specs.Tabulate.{tab}
use Rattle.maps.specs.Luma.{average_at}
use Rattle.maps.proofs.luma.fill_averages.Given as goal

abbrev pub invariant-loop-i : goal.invariant-loop-i
invariant-loop-i l = l.averages ≡ over (tab (average_at l.table l.backward l.forward) l.i) l.initial.averages
