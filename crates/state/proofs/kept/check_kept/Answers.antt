-- `state::kept::check_kept` meets its contract: a shape that has passed is accepted.
use Rattle.std.proofs.Common.{sym}
use Rattle.record.specs.Shape.Laws.{number_accepted}
use Rattle.state.proofs.kept.check_kept.Goals as goal

pub blocks-requires : goal.blocks-requires
blocks-requires c = number_accepted _ (sym c.in_ok-check_shape.ensures)
