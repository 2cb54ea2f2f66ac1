-- `maps::luma::check_luma` meets its contract: a shape that passed is an accepted one.
use Rattle.std.proofs.Common.{sym}
use Rattle.record.specs.Checks.Laws.{sets_ready}
use Rattle.maps.proofs.luma.check_luma.Goals as goal

pub blocks-n-requires : goal.blocks-n-requires
blocks-n-requires c = (sets_ready _ _ _ (sym c.in_ok-check_sets.ensures)).accepted
