-- `maps::planes::pack_row` meets its contract: the cells of the row up to column x are drawn in both planes.
use Rattle.std.proofs.Common.{◌+◌, ◌*◌}
use Rattle.maps.specs.Planes.{x_at, y_at}
use Rattle.maps.specs.Planes.Drawn.{Drawn, Run}
use Rattle.maps.proofs.planes.pack_row.Given as goal

abbrev pub invariant-loop-x : goal.invariant-loop-x
invariant-loop-x l = record {
  across : Drawn (Run (l.y * l.w + l.fn.cells.left) (l.y * l.w + l.x)) (x_at l.shape l.set) l.initial.xs l.xs;
  down : Drawn (Run (l.y * l.w + l.fn.cells.left) (l.y * l.w + l.x)) (y_at l.shape l.set) l.initial.ys l.ys;
}
