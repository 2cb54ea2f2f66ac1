-- `record::checks::check_sets` meets its contract: a shape that passed is accepted.
use mathlib.Core.Path.{sym}
use Rattle.record.specs.Shape.Laws.{number_accepted}
use Rattle.record.proofs.checks.check_sets.Goals as goal

pub set_size-size-requires : goal.set_size-size-requires
set_size-size-requires c = number_accepted _ (sym c.in_ok-check_shape.ensures)
