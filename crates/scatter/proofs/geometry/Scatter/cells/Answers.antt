-- `scatter::geometry::Scatter::cells` meets its contract: the parts of both axes, then the four cells and the four products.
use Rattle.std.proofs.Common.{rules, ◌≡◌, ℤ, sym, ◌∙◌, w32, SFits, to_z, of_z}
use Rattle.arith.specs.Signed.{back}
use Rattle.scatter.specs.Block.{cell_x, cell_y}
use Rattle.scatter.specs.Cells.{corners_of, products_of, cells_from}
use Rattle.scatter.specs.Geometry.Parts.{movable_x, movable_y, x_read, y_read}
use Rattle.scatter.proofs.geometry.Scatter.cells.Goals as goal

-- a number that reads back as another is that number
is : (r : ℤ) {z : ℤ} → SFits w32 r → to_z w32 (of_z w32 r) ≡ z → r ≡ z
is r f e = sym (back w32 f) ∙ e

pub parts-x-requires : goal.parts-x-requires
parts-x-requires c = movable_x c.requires c.ranges.tx c.ranges.qx

pub parts-y-requires : goal.parts-y-requires
parts-y-requires c = movable_y c.requires c.ranges.ty c.ranges.qy

pub corners-requires : goal.corners-requires
corners-requires c =
    let x = x_read c.requires c.ranges.tx c.parts-x.result c.parts-x.ensures in
    let y = y_read c.requires c.ranges.ty c.parts-y.result c.parts-y.ensures in
    record { geometry = c.requires.geometry; cx_most = rw x.cell x.small.cell_most; cy_most = rw y.cell y.small.cell_most }

pub products-requires : goal.products-requires
products-requires c =
    let x = x_read c.requires c.ranges.tx c.parts-x.result c.parts-x.ensures in
    let y = y_read c.requires c.ranges.ty c.parts-y.result c.parts-y.ensures in
    record {
      rx_most = rw (is c.parts-x.result.near (search rules) x.near) x.small.near_most;
      lx_most = rw (is c.parts-x.result.far (search rules) x.far) x.small.far_most;
      ry_most = rw (is c.parts-y.result.near (search rules) y.near) y.small.near_most;
      ly_most = rw (is c.parts-y.result.far (search rules) y.far) y.small.far_most;
    }

pub returns : goal.returns
unfolding cells_from cell_x cell_y
returns c =
    let shape = c.args.self.shape in
    let x = x_read c.requires c.ranges.tx c.parts-x.result c.parts-x.ensures in
    let y = y_read c.requires c.ranges.ty c.parts-y.result c.parts-y.ensures in
    let rx = is c.parts-x.result.near (search rules) x.near in
    let lx = is c.parts-x.result.far (search rules) x.far in
    let ry = is c.parts-y.result.near (search rules) y.near in
    let ly = is c.parts-y.result.far (search rules) y.far in
    λ i. record {
      at = (c.corners.ensures ∙ (λ j. corners_of shape (x.cell j) (y.cell j))) i;
      value = (c.products.ensures ∙ (λ j. products_of (rx j) (lx j) (ry j) (ly j))) i;
    }
