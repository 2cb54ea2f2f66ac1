-- `record::shape::columns` meets its contract: a side of an accepted grid is a natural.
use Rattle.record.specs.Shape.Laws.{grid_cast, grid_count}
use Rattle.record.proofs.shape.columns.Goals as goal

pub overflow_cast-result : goal.overflow_cast-result
overflow_cast-result c = grid_cast c.requires.x

pub returns : goal.returns
returns c = grid_count c.requires.x
