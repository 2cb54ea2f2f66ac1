-- `maps::map::check_map` meets its contract: a shape that passed is an accepted one.
use Rattle.std.proofs.Common.{sym}
use Rattle.record.specs.Checks.Laws.{sets_ready}
use Rattle.maps.proofs.map.check_map.Goals as goal

pub blocks-n-requires : goal.blocks-n-requires
blocks-n-requires c = (sets_ready _ _ _ (sym c.in_ok-check_sets.ensures)).accepted
