-- A block's parts on each axis: what working them out requires, and what they are as code reads them back.
use Rattle.std.specs.Prelude.{◌≡◌, refl, ℤ, pos, nat_abs, ◌+ℤ◌}
use Rattle.std.proofs.Common.{ap, ◌∙◌, SFits, to_z, of_z}
use Prim.Native.Nat.{ℕ, ◌≤◌}
use mir.Syntax.{w32}
use Rattle.arith.specs.Integers.{up}
use Rattle.arith.specs.Signed.{back, read}
use Rattle.record.specs.Shape.{step_of, step_x_of, step_y_of}
use Rattle.record.specs.Shape.Laws.{Axis, block_back}
use Rattle.scatter.specs.declared.axis.AxisParts.{AxisParts}
use Rattle.scatter.specs.declared.geometry.Scatter.{Scatter}
use Rattle.scatter.specs.Block.{reach, q_of, r_of, l_of}
use Rattle.scatter.specs.Block.Laws.{PartsSmall, parts_small, cell_fits, near_fits, far_fits}
use Rattle.scatter.specs.Geometry.{Movable, Floored, Small, parts_of}
use Rattle.scatter.specs.Geometry.Laws.{step_x_is, step_y_is}

-- the parts of a block at column or row `at` that has moved by t, as read back, and that they are small
pub record PartsRead (r : AxisParts) (step : ℕ) (block : ℤ) (at : ℕ) (t : ℤ) : Type 0 where
  pub cell : to_z w32 (of_z w32 r.cell) ≡ pos at +ℤ q_of step t
  pub near : to_z w32 (of_z w32 r.near) ≡ r_of step t
  pub far : to_z w32 (of_z w32 r.far) ≡ l_of block step t
  pub small : PartsSmall block step at t

-- ---- one axis

-- from its numbers as code reads them
module _ {block overlap grid picture : ℤ} (a : Axis block overlap grid picture) (step : ℤ) (s : to_z w32 (of_z w32 step) ≡ pos (step_of block overlap))
    (at : ℕ) (t : ℤ) (h : at ≤ 1024) (m : nat_abs t ≤ reach) (f : SFits w32 t) where
  movable : (q : ℤ) → q ≡ q_of (step_of block overlap) t → SFits w32 q
      → Movable (to_z w32 (of_z w32 step)) (to_z w32 (of_z w32 block)) at (to_z w32 (of_z w32 t)) (to_z w32 (of_z w32 q))
  movable q e k =
      rw (s, block_back a, back w32 f, back w32 k)
      (record {
        step_is = refl;
        step_least = a.step_range.least;
        step_most = a.step_range.most;
        block_is = a.block_range.is;
        block_most = a.block_range.most;
        at_most = h;
        t_most = m;
        floored = e;
      })

  parts_read : (r : AxisParts) → r ≡ parts_of (up (to_z w32 (of_z w32 step))) (to_z w32 (of_z w32 block)) at (to_z w32 (of_z w32 t))
      → PartsRead r (step_of block overlap) block at t
  unfolding parts_of
  parts_read r e =
      let n : ℕ = step_of block overlap in
      let is : r ≡ parts_of n block at t = e ∙ (λ i. parts_of (up (s i)) (block_back a i) at (back w32 f i)) in
      let p : PartsSmall block n at t = parts_small a.block_range.is a.block_range.most a.step_range.least a.step_range.most h m in
      record {
        cell = read w32 (ap (λ (x : AxisParts). x.cell) is) (cell_fits p);
        near = read w32 (ap (λ (x : AxisParts). x.near) is) (near_fits p);
        far = read w32 (ap (λ (x : AxisParts). x.far) is) (far_fits p);
        small = p;
      }

-- ---- both axes of a block

module _ {g : Scatter} {column row : ℕ} {tx ty qx qy : ℤ} (p : Floored g column row tx ty qx qy) where
  pub movable_x : SFits w32 tx → SFits w32 qx
      → Movable (to_z w32 (of_z w32 g.step_x)) (to_z w32 (of_z w32 g.shape.block_w)) column (to_z w32 (of_z w32 tx)) (to_z w32 (of_z w32 qx))
  unfolding step_x_of
  movable_x f = movable p.geometry.accepted.x g.step_x (step_x_is g p.geometry) column tx p.column_most p.tx_most f qx p.floored_x

  pub movable_y : SFits w32 ty → SFits w32 qy
      → Movable (to_z w32 (of_z w32 g.step_y)) (to_z w32 (of_z w32 g.shape.block_h)) row (to_z w32 (of_z w32 ty)) (to_z w32 (of_z w32 qy))
  unfolding step_y_of
  movable_y f = movable p.geometry.accepted.y g.step_y (step_y_is g p.geometry) row ty p.row_most p.ty_most f qy p.floored_y

  pub x_read : SFits w32 tx → (r : AxisParts)
      → r ≡ parts_of (up (to_z w32 (of_z w32 g.step_x))) (to_z w32 (of_z w32 g.shape.block_w)) column (to_z w32 (of_z w32 tx))
      → PartsRead r (step_x_of g.shape) g.shape.block_w column tx
  unfolding step_x_of
  x_read = parts_read p.geometry.accepted.x g.step_x (step_x_is g p.geometry) column tx p.column_most p.tx_most

  pub y_read : SFits w32 ty → (r : AxisParts)
      → r ≡ parts_of (up (to_z w32 (of_z w32 g.step_y))) (to_z w32 (of_z w32 g.shape.block_h)) row (to_z w32 (of_z w32 ty))
      → PartsRead r (step_y_of g.shape) g.shape.block_h row ty
  unfolding step_y_of
  y_read = parts_read p.geometry.accepted.y g.step_y (step_y_is g p.geometry) row ty p.row_most p.ty_most

-- the parts of both are small, as code hands them on
pub small_parts : {x y : AxisParts} {m n : ℕ} {b d : ℤ} {i j : ℕ} {t u : ℤ} → PartsRead x m b i t → PartsRead y n d j u
    → Small (to_z w32 (of_z w32 x.near)) (to_z w32 (of_z w32 x.far)) (to_z w32 (of_z w32 y.near)) (to_z w32 (of_z w32 y.far))
small_parts x y =
    record {
      rx_most = rw x.near x.small.near_most;
      lx_most = rw x.far x.small.far_most;
      ry_most = rw y.near y.small.near_most;
      ly_most = rw y.far y.small.far_most;
    }
