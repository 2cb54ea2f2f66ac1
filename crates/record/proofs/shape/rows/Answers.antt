-- `record::shape::rows` meets its contract: a side of an accepted grid is a natural.
use Rattle.record.specs.Shape.Laws.{grid_cast, grid_count}
use Rattle.record.proofs.shape.rows.Goals as goal

pub overflow_cast-result : goal.overflow_cast-result
overflow_cast-result c = grid_cast c.requires.y

pub returns : goal.returns
returns c = grid_count c.requires.y
