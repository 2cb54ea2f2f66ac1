-- `scatter::geometry::Scatter::of_vector` meets its contract: truncated, then floored, then the leaf.
use Rattle.std.proofs.Common.{◌≡◌, ℕ, ◌≤◌, ℤ, pos, nat_abs, ◌≤ℤ◌, sym, ap, ◌∙◌, subst, arith, w16, w32, SFits, to_z, of_z, lit<}
use native.Mathlib.Nat.{lt_of_le_of_lt}
use lib.Signed.{nat_abs-le}
use Rattle.arith.specs.Floor.{floor_z}
use Rattle.arith.specs.Floor.Laws.{floor_fits}
use Rattle.arith.specs.Integers.{le_z! }
use Rattle.arith.specs.Signed.{back, read, fits_by, abs_sfits}
use Rattle.record.specs.Shape.{step_x_of, step_y_of}
use Rattle.scatter.specs.declared.geometry.Scatter.{Scatter}
use Rattle.scatter.specs.Block.{reach, t_of, q_of}
use Rattle.scatter.specs.Block.Laws.{t_most}
use Rattle.scatter.specs.Cells.{cells_from}
use Rattle.scatter.specs.Geometry.{Geometry}
use Rattle.scatter.specs.Geometry.Laws.{step_x_is, step_y_is}
use Rattle.scatter.proofs.geometry.Scatter.of_vector.Goals as goal

-- where a component takes the block, as the code reads it
module _ (g : Scatter) (y : Geometry g) (v : ℤ) (f : SFits w16 v) where
  moved_most : nat_abs (t_of g.shape g.time v) ≤ reach
  moved_most = t_most g.shape g.time v y.accepted y.timed (nat_abs-le v f.sfits)

  moved_fits : SFits w32 (t_of g.shape g.time v)
  moved_fits = abs_sfits w32 (t_of g.shape g.time v) (lt_of_le_of_lt moved_most (lit< tt))

  moved_is : (r : ℤ) → r ≡ t_of g.shape g.time (to_z w16 (of_z w16 v)) → to_z w32 (of_z w32 r) ≡ t_of g.shape g.time v
  moved_is r e = read w32 (e ∙ ap (t_of g.shape g.time) (back w16 f)) moved_fits

-- a floor as it is read back
floor_is : (t d q : ℤ) (n : ℕ) → SFits w32 t → d ≡ pos n → q ≡ floor_z t d → to_z w32 (of_z w32 q) ≡ q_of n t
unfolding q_of
floor_is t d q n f e h = read w32 (h ∙ ap (floor_z t) e) (floor_fits w32 t n f)

at_least_one : {z : ℤ} {n : ℕ} → z ≡ pos n → 1 ≤ n → pos 1 ≤ℤ z
at_least_one e h = subst (λ (z : ℤ). pos 1 ≤ℤ z) (sym e) (le_z! (omega arith))

pub floor_div-qx-requires : goal.floor_div-qx-requires
unfolding step_x_of
floor_div-qx-requires c = at_least_one (step_x_is c.args.self c.requires.geometry) c.requires.geometry.accepted.x.step_range.least

pub floor_div-qy-requires : goal.floor_div-qy-requires
unfolding step_y_of
floor_div-qy-requires c = at_least_one (step_y_is c.args.self c.requires.geometry) c.requires.geometry.accepted.y.step_range.least

pub cells-requires : goal.cells-requires
cells-requires c =
    let g = c.args.self in
    let r = c.requires in
    let y = r.geometry in
    let tx = moved_is g y c.args.x c.ranges.x c.moved-tx.result c.moved-tx.ensures in
    let ty = moved_is g y c.args.y c.ranges.y c.moved-ty.result c.moved-ty.ensures in
    record {
      geometry = y;
      column_most = r.column_most;
      row_most = r.row_most;
      tx_most = rw tx (moved_most g y c.args.x c.ranges.x);
      ty_most = rw ty (moved_most g y c.args.y c.ranges.y);
      floored_x =
          floor_is _ _ c.floor_div-qx.result (step_x_of g.shape) (fits_by tx (moved_fits g y c.args.x c.ranges.x)) (step_x_is g y) c.floor_div-qx.ensures;
      floored_y =
          floor_is _ _ c.floor_div-qy.result (step_y_of g.shape) (fits_by ty (moved_fits g y c.args.y c.ranges.y)) (step_y_is g y) c.floor_div-qy.ensures;
    }

pub returns : goal.returns
returns c =
    let g = c.args.self in
    let y = c.requires.geometry in
    let tx = moved_is g y c.args.x c.ranges.x c.moved-tx.result c.moved-tx.ensures in
    let ty = moved_is g y c.args.y c.ranges.y c.moved-ty.result c.moved-ty.ensures in
    c.cells.ensures ∙ (λ i. cells_from g.shape c.args.column c.args.row (tx i) (ty i))
