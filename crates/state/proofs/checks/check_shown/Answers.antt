-- `state::checks::check_shown` meets its contract: a shape that has passed is accepted.
use Rattle.std.proofs.Common.{sym}
use Rattle.record.specs.Shape.Laws.{number_accepted}
use Rattle.state.proofs.checks.check_shown.Goals as goal

pub is_sized-requires : goal.is_sized-requires
is_sized-requires c = number_accepted _ (sym c.in_ok-check_shape.ensures)
