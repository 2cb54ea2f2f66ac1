-- `fast::lane::lane` meets its contract: a block with a corner gives four products from there, and any other goes through the leaf.
use Rattle.std.specs.Prelude.{◌≡◌, ◌≢◌, Option, Some, List, ℕ, ◌+◌, ◌<◌, ◌≤◌, ℤ, ◌*ℤ◌, length}
use Rattle.std.proofs.Common.{sym, ap, ◌∙◌, arith, rules, SFits, to_z, of_z}
use Rattle.std.specs.Int.{w32}
use Rattle.arith.specs.Signed.{back}
use Rattle.record.specs.Shape.{step_x_of, step_y_of, stride_of, grid_size}
use Rattle.record.specs.declared.shape.FieldShape.{FieldShape}
use Rattle.scatter.specs.declared.axis.AxisParts.{AxisParts}
use Rattle.scatter.specs.Block.{cell_x, cell_y}
use Rattle.scatter.specs.Cells.{cells_from}
use Rattle.scatter.specs.Cells.Laws.{from_room}
use Rattle.scatter.specs.Added.{added}
use Rattle.scatter.specs.Geometry.{Small}
use Rattle.scatter.specs.Geometry.Parts.{PartsRead, movable_x, movable_y, x_read, y_read}
use Rattle.fast.specs.Corner.{corner_of, corner_at}
use Rattle.fast.specs.Corner.Laws.{corner_below, corner_found, cells_four}
use Rattle.fast.specs.Held.{four, released}
use Rattle.fast.specs.Held.Laws.{released_added}
use Rattle.fast.proofs.lane.lane.Goals as goal

-- a number that reads back as another is that number
is : (r : ℤ) {z : ℤ} → SFits w32 r → to_z w32 (of_z w32 r) ≡ z → r ≡ z
is r f e = sym (back w32 f) ∙ e

-- a corner that the code found, from the parts of both axes
module _ (s : FieldShape) (column row : ℕ) (tx ty : ℤ) {x y : AxisParts} (px : PartsRead x (step_x_of s) s.block_w column tx) (py : PartsRead y (step_y_of s) s.block_h row ty)
    {o : Option ℕ} {at : ℕ} (e : o ≡ corner_at s (to_z w32 (of_z w32 x.cell)) (to_z w32 (of_z w32 y.cell))) (f : o ≡ Some at) where
  found : (at ≡ corner_of s (cell_x s column tx) (cell_y s row ty)) × (corner_of s (cell_x s column tx) (cell_y s row ty) ≢ 0)
  unfolding cell_x cell_y
  found = corner_found s _ _ at (sym (e ∙ (λ i. corner_at s (px.cell i) (py.cell i))) ∙ f)

  below : {S n : ℕ} → S ≡ stride_of s → grid_size s ≤ n → at + 1 + S < n
  below r h = omega (arith, r, h, found.0, corner_below s (cell_x s column tx) (cell_y s row ty) found.1)

  module _ (xn : SFits w32 x.near) (xf : SFits w32 x.far) (yn : SFits w32 y.near) (yf : SFits w32 y.far) where
    small : Small x.near x.far y.near y.far
    small =
        record {
          rx_most = rw (is x.near xn px.near) px.small.near_most;
          lx_most = rw (is x.far xf px.far) px.small.far_most;
          ry_most = rw (is y.near yn py.near) py.small.near_most;
          ly_most = rw (is y.far yf py.far) py.small.far_most;
        }

    all_four : {S : ℕ} (g : List ℤ) → S ≡ stride_of s
        → four S at (y.near *ℤ x.near) (y.near *ℤ x.far) (y.far *ℤ x.far) (x.near *ℤ y.far) g ≡ added g (cells_from s column row tx ty)
    all_four g r =
        let rx = is x.near xn px.near in
        let lx = is x.far xf px.far in
        let ry = is y.near yn py.near in
        let ly = is y.far yf py.far in
        (λ i. four (r i) (found.0 i) (ry i *ℤ rx i) (ry i *ℤ lx i) (ly i *ℤ lx i) (rx i *ℤ ly i) g) ∙ sym (cells_four s column row tx ty g found.1)

pub parts-x-requires : goal.parts-x-requires
parts-x-requires c = movable_x c.requires.0 c.ranges.tx c.ranges.qx

pub parts-y-requires : goal.parts-y-requires
parts-y-requires c = movable_y c.requires.0 c.ranges.ty c.ranges.qy

pub add-requires : goal.add-requires
add-requires c = from_room c.args.g.shape c.args.column c.args.row _ _ _ (length c.args.grid.now) c.cells-c.ensures c.requires.1

pub returns-in_default-clause-adds : goal.returns-in_default-clause-adds
returns-in_default-clause-adds c =
    let a = c.args in
    let g = a.g in
    ap (released g.stride a.held)
    (c.add.ensures
    ∙ ap (added a.grid.now) (c.cells-c.ensures ∙ (λ i. cells_from g.shape a.column a.row (back w32 c.ranges.tx i) (back w32 c.ranges.ty i))))
    ∙ released_added g.stride a.held a.grid.now (cells_from g.shape a.column a.row a.tx a.ty)

pub inner-requires : goal.inner-requires
inner-requires c =
    let x = x_read c.requires.0 c.ranges.tx c.parts-x.result c.parts-x.ensures in
    let y = y_read c.requires.0 c.ranges.ty c.parts-y.result c.parts-y.ensures in
    (small c.args.g.shape c.args.column c.args.row c.args.tx c.args.ty x y c.corner.ensures c.in-Some.is (search rules) (search rules) (search rules) (search rules), c.requires.2, below c.args.g.shape c.args.column c.args.row c.args.tx c.args.ty x y c.corner.ensures c.in-Some.is c.requires.0.geometry.stride c.requires.1)

pub returns-clause-within : goal.returns-clause-within
returns-clause-within c =
    let x = x_read c.requires.0 c.ranges.tx c.parts-x.result c.parts-x.ensures in
    let y = y_read c.requires.0 c.ranges.ty c.parts-y.result c.parts-y.ensures in
    omega (arith, c.inner.ensures.within, below c.args.g.shape c.args.column c.args.row c.args.tx c.args.ty x y c.corner.ensures c.in-Some.is c.requires.0.geometry.stride c.requires.1)

pub returns-clause-adds : goal.returns-clause-adds
returns-clause-adds c =
    let a = c.args in
    let x = x_read c.requires.0 c.ranges.tx c.parts-x.result c.parts-x.ensures in
    let y = y_read c.requires.0 c.ranges.ty c.parts-y.result c.parts-y.ensures in
    c.inner.ensures.adds ∙ all_four a.g.shape a.column a.row a.tx a.ty x y c.corner.ensures c.in-Some.is (search rules) (search rules) (search rules) (search rules) (released a.g.stride a.held a.grid.now) c.requires.0.geometry.stride
