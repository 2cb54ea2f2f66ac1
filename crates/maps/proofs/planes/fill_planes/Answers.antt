-- `maps::planes::fill_planes` meets its contract: the rectangle of every column and row is the whole planes.
use Rattle.record.specs.Shape.Laws.{shape_bounds}
use Rattle.maps.specs.Planes.{planes, planes_made, x_at, y_at, x_plane, y_plane}
use Rattle.maps.specs.Planes.Drawn.{drawn_all}
use Rattle.maps.proofs.planes.fill_planes.Goals as goal

pub returns : goal.returns
unfolding planes_made x_plane y_plane
returns c =
    let a = c.args in
    let p = c.requires in
    let e = c.pack_rows.ensures in
    let some = (shape_bounds a.shape p.accepted).width_least in
    λ i.
    planes
    (drawn_all (x_at a.shape a.set.now) a.shape some _ _ a.xs.now _ p.x_room c.packed_width-w.ensures c.packed_height-h.ensures e.0 i)
    (drawn_all (y_at a.shape a.set.now) a.shape some _ _ a.ys.now _ p.y_room c.packed_width-w.ensures c.packed_height-h.ensures e.1 i)
