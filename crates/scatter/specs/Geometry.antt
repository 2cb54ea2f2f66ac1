-- The rule of times, what a scatter works out once of a shape and a time, the parts of a block on one axis, and what the functions over them require
-- (paper 01, 'Scatter').
use Rattle.std.specs.Prelude.{◌≡◌, Bool, ℕ, ◌≤◌, ◌<◌, ℤ, pos, negsuc, nat_abs, ◌+ℤ◌, ◌*ℤ◌, ◌≤ℤ◌}
use Rattle.arith.specs.Integers.{up, in_range}
use Rattle.record.specs.declared.shape.FieldShape.{FieldShape}
use Rattle.record.specs.Numbers.{unless}
use Rattle.record.specs.Shape.{blocks_of, step_x_of, step_y_of, width_of, height_of, set_size, stride_of, trash_of, grid_size}
use Rattle.record.specs.Shape.Laws.{Accepted}
use Rattle.scatter.specs.declared.axis.AxisParts.{AxisParts}
use Rattle.scatter.specs.declared.geometry.Scatter.{Scatter}
use Rattle.scatter.specs.Block.{reach, q_of, r_of, l_of}
pub mod Laws
pub mod Parts

-- a time is -65,535 to 65,535
unfoldable pub time_accepted : ℤ → Bool
time_accepted T = in_range (negsuc 65534) (pos 65535) T

-- 7 a time outside its range (paper 01, 'Refused calls')
unfoldable pub time_number : ℤ → ℕ
time_number T = unless (time_accepted T) 7

-- an accepted time, as two orders (`timed`)
pub record Timed (T : ℤ) : Type 0 where
  pub least : negsuc 65534 ≤ℤ T
  pub most : T ≤ℤ pos 65535

-- what a scatter of this shape at T needs of both, worked out once
unfoldable pub geometry_of : FieldShape → ℤ → Scatter
geometry_of s T =
    record {
      shape = s;
      time = T;
      denom = pos 256 *ℤ s.pel;
      step_x = pos (step_x_of s);
      step_y = pos (step_y_of s);
      width = width_of s;
      height = height_of s;
      stride = stride_of s;
      trash = trash_of s;
    }

-- what the functions over it require: an accepted shape, a time in its range, and numbers that are theirs
pub record Geometry (g : Scatter) : Type 0 where
  pub accepted : Accepted g.shape
  pub timed : Timed g.time
  pub denom : g.denom ≡ pos 256 *ℤ g.shape.pel
  pub step_x : g.step_x ≡ pos (step_x_of g.shape)
  pub step_y : g.step_y ≡ pos (step_y_of g.shape)
  pub width : g.width ≡ width_of g.shape
  pub height : g.height ≡ height_of g.shape
  pub stride : g.stride ≡ stride_of g.shape
  pub trash : g.trash ≡ trash_of g.shape

-- ---- one axis of a block

-- of a block at column or row `at` that has moved by t: its first cell, r, and l
unfoldable pub parts_of : ℕ → ℤ → ℕ → ℤ → AxisParts
parts_of step block at t = record { cell = pos at +ℤ q_of step t; near = r_of step t; far = l_of block step t }

-- what is required to work it out: q is the floor that the caller has found
pub record Movable (step block : ℤ) (at : ℕ) (t q : ℤ) : Type 0 where
  pub step_is : step ≡ pos (up step)
  pub step_least : 1 ≤ up step
  pub step_most : up step ≤ 256
  pub block_is : block ≡ pos (up block)
  pub block_most : up block ≤ 256
  pub at_most : at ≤ 1024
  pub t_most : nat_abs t ≤ reach
  pub floored : q ≡ q_of (up step) t

-- the same of both axes
pub record Floored (g : Scatter) (column row : ℕ) (tx ty qx qy : ℤ) : Type 0 where
  pub geometry : Geometry g
  pub column_most : column ≤ 1024
  pub row_most : row ≤ 1024
  pub tx_most : nat_abs tx ≤ reach
  pub ty_most : nat_abs ty ≤ reach
  pub floored_x : qx ≡ q_of (step_x_of g.shape) tx
  pub floored_y : qy ≡ q_of (step_y_of g.shape) ty

-- a column and a row of the grid of blocks
pub record Placed (g : Scatter) (column row : ℕ) : Type 0 where
  pub geometry : Geometry g
  pub column_most : column ≤ 1024
  pub row_most : row ≤ 1024

-- a first cell that is far from the ends of i32
pub record Cornered (g : Scatter) (cx cy : ℤ) : Type 0 where
  pub geometry : Geometry g
  pub cx_most : nat_abs cx ≤ 16777216
  pub cy_most : nat_abs cy ≤ 16777216

-- parts of a block
pub record Small (rx lx ry ly : ℤ) : Type 0 where
  pub rx_most : nat_abs rx ≤ 256
  pub lx_most : nat_abs lx ≤ 256
  pub ry_most : nat_abs ry ≤ 256
  pub ly_most : nat_abs ly ≤ 256

-- ---- lent buffers

-- a shape and a time, with a set and a grid of these lengths, which are enough
pub record ScatterRoom (s : FieldShape) (T : ℤ) (set grid : ℕ) : Type 0 where
  pub accepted : Accepted s
  pub timed : Timed T
  pub set_room : set_size s ≤ set
  pub grid_room : grid_size s ≤ grid

-- the same at one row of blocks
pub record RowRoom (g : Scatter) (row set grid : ℕ) : Type 0 where
  pub geometry : Geometry g
  pub row_below : row < up g.shape.grid_h
  pub set_room : set_size g.shape ≤ set
  pub grid_room : grid_size g.shape ≤ grid

-- the same at one block, of whose set nothing is read
pub record BlockRoom (s : FieldShape) (T : ℤ) (block grid : ℕ) : Type 0 where
  pub accepted : Accepted s
  pub timed : Timed T
  pub block_below : block < blocks_of s
  pub grid_room : grid_size s ≤ grid
