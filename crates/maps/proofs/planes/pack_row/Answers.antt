-- `maps::planes::pack_row` meets its contract: the cells of the row up to column x are drawn in both planes.
use Rattle.std.proofs.Common.{◌≡◌, ℕ, ◌+◌, ◌*◌, ◌<◌, ◌≤◌, sym, ap, ◌∙◌, mul-le-mul, arith}
use Rattle.record.specs.declared.shape.FieldShape.{FieldShape}
use Rattle.record.specs.Shape.{width_of, height_of}
use Rattle.record.specs.Shape.Laws.{Accepted, shape_bounds}
use Rattle.maps.specs.declared.planes.Cell.{Cell}
use Rattle.maps.specs.Planes.{x_at, y_at}
use Rattle.maps.specs.Planes.Laws.{cell_lt, plane_most, x_at_lem, y_at_lem}
use Rattle.maps.specs.Planes.Drawn.{drawn_next}
use Rattle.maps.proofs.planes.pack_row.Goals as goal

-- a cell's number is small
few : (s : FieldShape) (w x y : ℕ) → Accepted s → w ≡ width_of s → x < w → y < height_of s → y * w + x < 1050625
few s w x y a e h l = omega (arith, cell_lt s w x y e h l, plane_most s a)

pub overflow_mul-start : goal.overflow_mul-start
overflow_mul-start c =
    let z = c.requires.0 in
    let l = (shape_bounds c.args.shape z.ready.accepted).width_most in
    let h = (shape_bounds c.args.shape z.ready.accepted).height_most in
    let y : c.args.y ≤ 1025 = omega arith in
    let w : c.args.w ≤ 1025 = omega arith in
    record { fits = omega (arith, mul-le-mul y w) }

pub overflow_add-k : goal.overflow_add-k
overflow_add-k c =
    let z = c.requires.0 in
    record { fits = omega (arith, few c.args.shape c.args.w c.loop-x.x c.args.y z.ready.accepted z.width (omega arith) c.requires.1) }

pub offset_bounds-xs-k : goal.offset_bounds-xs-k
offset_bounds-xs-k c =
    let z = c.requires.0 in
    record { fits = omega (arith, few c.args.shape c.args.w c.loop-x.x c.args.y z.ready.accepted z.width (omega arith) c.requires.1) }

pub bounds-xs-k : goal.bounds-xs-k
bounds-xs-k c =
    let z = c.requires.0 in
    omega (arith, cell_lt c.args.shape c.args.w c.loop-x.x c.args.y z.width (omega arith) c.requires.1, z.ready.x_room)

pub offset_bounds-ys-k : goal.offset_bounds-ys-k
offset_bounds-ys-k c =
    let z = c.requires.0 in
    record { fits = omega (arith, few c.args.shape c.args.w c.loop-x.x c.args.y z.ready.accepted z.width (omega arith) c.requires.1) }

pub bounds-ys-k : goal.bounds-ys-k
bounds-ys-k c =
    let z = c.requires.0 in
    omega (arith, cell_lt c.args.shape c.args.w c.loop-x.x c.args.y z.width (omega arith) c.requires.1, z.ready.y_room)

pub loop-x-preserved : goal.loop-x-preserved
loop-x-preserved c =
    let l = c.loop-x in
    let a = c.args in
    let z = c.requires.0 in
    let x : l.x < a.w = omega arith in
    let within = cell_lt a.shape a.w l.x a.y z.width x c.requires.1 in
    let k : ℕ = a.y * a.w + l.x in
    let n : a.y * a.w + (l.x + 1) ≡ k + 1 = omega arith in
    record {
      across =
          drawn_next (x_at a.shape a.set.now) (a.y * a.w + a.cells.left) k _ _ a.xs.now l.xs (omega arith) (omega (arith, within, z.ready.x_room)) n l.invariant.across
          (ap (λ (e : Cell). e.x) c.cell_at-cell.ensures ∙ sym (x_at_lem a.shape a.set.now a.w l.x a.y z.width x));
      down =
          drawn_next (y_at a.shape a.set.now) (a.y * a.w + a.cells.left) k _ _ a.ys.now l.ys (omega arith) (omega (arith, within, z.ready.y_room)) n l.invariant.down
          (ap (λ (e : Cell). e.y) c.cell_at-cell.ensures ∙ sym (y_at_lem a.shape a.set.now a.w l.x a.y z.width x));
    }
