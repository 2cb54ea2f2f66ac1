-- `maps::planes::pack_rows` meets its contract: the rows of the rectangle above y are drawn in both planes.
use Rattle.maps.specs.Planes.{x_at, y_at}
use Rattle.maps.specs.Planes.Drawn.{Drawn, InRectangle}
use Rattle.maps.proofs.planes.pack_rows.Given as goal

abbrev pub invariant-loop-y : goal.invariant-loop-y
invariant-loop-y l = record {
  across : Drawn (InRectangle l.shape l.cells.left l.cells.right l.cells.top l.y) (x_at l.shape l.set) l.initial.xs l.xs;
  down : Drawn (InRectangle l.shape l.cells.left l.cells.right l.cells.top l.y) (y_at l.shape l.set) l.initial.ys l.ys;
}
