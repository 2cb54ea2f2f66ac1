-- `scatter::geometry::Scatter::new` meets its contract: each number is within its type, for a shape within its limits.
use Rattle.std.proofs.Common.{pos, ◌+◌, ◌*◌, ℤ, ◌*ℤ◌, ap, arith, w32}
use Rattle.arith.specs.Signed.{back, read}
use Rattle.record.specs.Shape.{step_x_of, step_y_of, stride_of, trash_of}
use Rattle.record.specs.Shape.Laws.{shape_bounds, trash_most, step_made, step_small, pel_back}
use Rattle.scatter.specs.Geometry.{geometry_of}
use Rattle.scatter.specs.Geometry.Laws.{denom_fits}
use Rattle.scatter.proofs.geometry.Scatter.new.Goals as goal

pub overflow_add-stride : goal.overflow_add-stride
overflow_add-stride c = omega (arith, (shape_bounds c.args.shape c.requires.0).width_most, c.packed_width-width.ensures)

pub overflow_cast-result : goal.overflow_cast-result
overflow_cast-result c = omega (arith, (shape_bounds c.args.shape c.requires.0).width_most, c.packed_width-width.ensures)

pub overflow_cast-result-2 : goal.overflow_cast-result-2
overflow_cast-result-2 c = omega (arith, (shape_bounds c.args.shape c.requires.0).height_most, c.packed_height-height.ensures)

pub overflow_add-result : goal.overflow_add-result
overflow_add-result c = omega (arith, (shape_bounds c.args.shape c.requires.0).height_most, c.packed_height-height.ensures)

pub overflow_mul-result-2 : goal.overflow_mul-result-2
unfolding stride_of trash_of
overflow_mul-result-2 c =
    rw (c.packed_width-width.ensures, c.packed_height-height.ensures) (record { fits = omega (arith, trash_most c.args.shape c.requires.0) })

pub returns : goal.returns
unfolding geometry_of step_x_of step_y_of stride_of trash_of
returns c =
    let shape = c.args.shape in
    let a = c.requires.0 in
    let w = c.packed_width-width.ensures in
    let h = c.packed_height-height.ensures in
    λ i. record {
      shape = shape;
      time = back w32 c.ranges.time i;
      denom = read w32 (ap (λ (z : ℤ). pos 256 *ℤ z) (pel_back shape a)) (denom_fits a) i;
      step_x = read w32 (step_made a.x) (step_small a.x) i;
      step_y = read w32 (step_made a.y) (step_small a.y) i;
      width = w i;
      height = h i;
      stride = w i + 2;
      trash = (w i + 2) * (h i + 2);
    }
