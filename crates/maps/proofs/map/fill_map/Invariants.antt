-- `maps::map::fill_map` meets its contract: the first i bytes are written.
use Rattle.std.proofs.Common.{◌≡◌}
use Rattle.arith.specs.Splice.{over}
use Rattle.arith.specs.Tabulate.{tab}
use Rattle.maps.specs.Map.{map_at}
use Rattle.maps.proofs.map.fill_map.Given as goal

abbrev pub invariant-loop-i : goal.invariant-loop-i
invariant-loop-i l = l.map ≡ over (tab (map_at l.limits l.set l.averages) l.i) l.initial.map
