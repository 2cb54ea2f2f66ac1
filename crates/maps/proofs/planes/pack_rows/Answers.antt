-- `maps::planes::pack_rows` meets its contract: the rows of the rectangle above y are drawn in both planes.
use Rattle.std.proofs.Common.{arith}
use Rattle.record.specs.Shape.Laws.{shape_bounds}
use Rattle.maps.specs.Planes.{x_at, y_at}
use Rattle.maps.specs.Planes.Drawn.{drawn_rows}
use Rattle.maps.proofs.planes.pack_rows.Goals as goal

pub loop-y-preserved : goal.loop-y-preserved
loop-y-preserved c =
    let l = c.loop-y in
    let a = c.args in
    let p = c.requires in
    let some = (shape_bounds a.shape p.0.ready.accepted).width_least in
    record {
      across =
          drawn_rows (x_at a.shape a.set.now) a.shape some a.w a.cells.left a.cells.right a.cells.top l.y a.xs.now l.xs _ p.0.width p.2 (omega arith) l.invariant.across
          c.pack_row.ensures.0;
      down =
          drawn_rows (y_at a.shape a.set.now) a.shape some a.w a.cells.left a.cells.right a.cells.top l.y a.ys.now l.ys _ p.0.width p.2 (omega arith) l.invariant.down
          c.pack_row.ensures.1;
    }
