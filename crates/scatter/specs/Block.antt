-- Where a block is at a time (paper 01, 'Scatter'): how far its vector takes it, its first cell, and its parts on either side of a cell's line.
use Rattle.std.specs.Prelude.{ℕ, ℤ, pos, ◌+ℤ◌, ◌-ℤ◌, ◌*ℤ◌}
use Rattle.std.specs.Int.Signed.{quot_z}
use Rattle.arith.specs.Floor.{floor_n}
use Rattle.record.specs.declared.shape.FieldShape.{FieldShape}
use Rattle.record.specs.Shape.{step_x_of, step_y_of}
pub mod Laws

-- ---- one axis

-- how far from 0 any time takes a block: 65,535 × 32,768 / 256
abbrev pub reach : ℕ
reach = 8388480

-- t = T × v / (256 × pel), truncated to zero
unfoldable pub t_of : FieldShape → ℤ → ℤ → ℤ
t_of s T v = quot_z (T *ℤ v) (pos 256 *ℤ s.pel)

-- q = floor(t / step)
unfoldable pub q_of : ℕ → ℤ → ℤ
q_of step t = floor_n t step

-- r = step × (q + 1) - t
unfoldable pub r_of : ℕ → ℤ → ℤ
r_of step t = pos step *ℤ (q_of step t +ℤ pos 1) -ℤ t

-- l = block side - r, of any sign
unfoldable pub l_of : ℤ → ℕ → ℤ → ℤ
l_of block step t = block -ℤ r_of step t

-- ---- the first scatter cell

-- cx = bx + qx and cy = by + qy, of a block at column bx, row by that has moved by tx, ty
unfoldable pub cell_x : FieldShape → ℕ → ℤ → ℤ
cell_x s bx tx = pos bx +ℤ q_of (step_x_of s) tx

unfoldable pub cell_y : FieldShape → ℕ → ℤ → ℤ
cell_y s by ty = pos by +ℤ q_of (step_y_of s) ty
