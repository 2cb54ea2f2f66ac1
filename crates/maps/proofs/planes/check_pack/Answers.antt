-- `maps::planes::check_pack` meets its contract: a shape that passed is an accepted one.
use Rattle.std.proofs.Common.{sym}
use Rattle.record.specs.Checks.Laws.{sets_ready}
use Rattle.maps.proofs.planes.check_pack.Goals as goal

pub plane_size-cells-requires : goal.plane_size-cells-requires
plane_size-cells-requires c = (sets_ready _ _ _ (sym c.in_ok-check_sets.ensures)).accepted
