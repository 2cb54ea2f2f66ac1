-- Lanes: the blocks of a row that a fast row works on at once.
use Rattle.std.specs.Prelude.{◌≡◌, true, List, ℕ, ◌+◌, ◌^◌, ◌≤◌, ◌<◌, ℤ, pos, nat_abs, ◌*ℤ◌, length, get_or}
use Rattle.std.specs.Int.Signed.{quot_z}
use Rattle.arith.specs.Floor.{floor_z}
use Rattle.record.specs.declared.shape.FieldShape.{FieldShape}
use Rattle.record.specs.Entries.{entry_at}
use Rattle.record.specs.Shape.{step_x_of, step_y_of}
use Rattle.scatter.specs.declared.geometry.Cells.{Cells}
use Rattle.scatter.specs.declared.geometry.Scatter.{Scatter}
use Rattle.scatter.specs.Block.{reach, t_of, q_of}
use Rattle.scatter.specs.Cells.{cells_from}
use Rattle.scatter.specs.Geometry.{Geometry}
use Rattle.fast.specs.declared.divide.FloorDiv.{FloorDiv}
use Rattle.fast.specs.Condition.{fast_row, fast_of}
use Rattle.fast.specs.Reciprocal.{DivReady}
pub mod Laws

-- how many they are
abbrev pub lanes : ℕ
lanes = 16

-- the x and the y of lane k, which is entry start + k
abbrev pub across_at : List ℕ → ℕ → ℕ → ℤ
across_at set start k = (entry_at set (start + k)).x

abbrev pub down_at : List ℕ → ℕ → ℕ → ℤ
down_at set start k = (entry_at set (start + k)).y

-- T × v / 2^shift, truncated, of lane k
abbrev pub scaled_at : List ℤ → ℤ → ℕ → ℕ → ℤ
scaled_at v T shift k = quot_z (T *ℤ get_or v k (pos 0)) (pos (2 ^ shift))

-- the floor of t / D of lane k
abbrev pub floored_at : List ℤ → ℤ → ℕ → ℤ
floored_at t D k = floor_z (get_or t k (pos 0)) D

-- a scatter whose T × v / (256 × pel) is a shift
pub record Shifted (g : Scatter) (shift : ℕ) : Type 0 where
  pub geometry : Geometry g
  pub taken : fast_row g.shape ≡ true
  pub is : shift ≡ (fast_of g.shape).shift

-- each number of a list is at most m from 0
pub record Bounded (m : ℕ) (l : List ℤ) : Type 0 where
  pub most : (k : ℕ) → nat_abs (get_or l k (pos 0)) ≤ m

-- what is required to work on one axis of the lanes, whose components are v, by the lengths of two arrays
pub record AxisRoom (g : Scatter) (shift : ℕ) (step : FloorDiv) (v : List ℤ) (t q : ℕ) : Type 0 where
  pub shifted : Shifted g shift
  pub ready : DivReady step
  pub small : Bounded 32768 v
  pub v_room : length v ≡ lanes
  pub t_room : t ≡ lanes
  pub q_room : q ≡ lanes

-- one axis of `count` blocks, in two arrays: how far each goes, and the floor of that by the step
pub record AxisFloors (step count : ℕ) (t q : List ℤ) : Type 0 where
  pub t_length : count ≤ length t
  pub q_length : count ≤ length q
  pub most : (k : ℕ) → k < count → nat_abs (get_or t k (pos 0)) ≤ reach
  pub floored : (k : ℕ) → k < count → get_or q k (pos 0) ≡ q_of step (get_or t k (pos 0))

-- the same of blocks with components v 0, v 1, ..
pub record Moved (s : FieldShape) (T : ℤ) (step : ℕ) (v : ℕ → ℤ) (count : ℕ) (t q : List ℤ) : Type 0 where
  pub moved : (k : ℕ) → k < count → get_or t k (pos 0) ≡ t_of s T (v k)
  pub floors : AxisFloors step count t q

-- what is required to add `count` blocks from a column on
pub record Floors (g : Scatter) (column row count : ℕ) (tx ty qx qy : List ℤ) : Type 0 where
  pub geometry : Geometry g
  pub columns : column + count ≤ 1024
  pub row_most : row ≤ 1024
  pub x : AxisFloors (step_x_of g.shape) count tx qx
  pub y : AxisFloors (step_y_of g.shape) count ty qy

-- the cells of lane k, which is the block at column + k
unfoldable pub lane_cells : FieldShape → ℕ → ℕ → List ℤ → List ℤ → ℕ → Cells
lane_cells s column row tx ty k = cells_from s (column + k) row (get_or tx k (pos 0)) (get_or ty k (pos 0))
