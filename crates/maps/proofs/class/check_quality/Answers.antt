-- `maps::class::check_quality` meets its contract: a shape that passed is an accepted one.
use Rattle.std.proofs.Common.{sym}
use Rattle.record.specs.Checks.Laws.{sets_ready}
use Rattle.maps.proofs.class.check_quality.Goals as goal

pub blocks-requires : goal.blocks-requires
blocks-requires c = (sets_ready _ _ _ (sym c.in_ok-check_sets.ensures)).accepted
