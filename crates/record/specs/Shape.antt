-- The shape of a vector field, its limits, counts and sizes (paper 01, 'Record and shape' and 'Refused calls').
use Rattle.std.specs.Prelude.{Bool, cond, ◌&&◌, ℕ, ◌+◌, ◌-◌, ◌*◌, ◌/◌, ◌%◌, min, ℤ, pos, ◌+ℤ◌, ◌-ℤ◌, ◌*ℤ◌}
use Rattle.std.specs.Int.Signed.{lt_z}
use Rattle.arith.specs.Integers.{up, in_range}
use Rattle.record.specs.declared.data.VectorData.{VectorData}
use Rattle.record.specs.declared.shape.FieldShape.{FieldShape}
use Rattle.record.specs.Numbers.{unless}
pub mod Laws

-- the shape that a record gives; `marker` is the pel
unfoldable pub shape_of : VectorData → FieldShape
shape_of d =
    record {
      flags = d.flags;
      block_w = d.block.width;
      block_h = d.block.height;
      pel = d.marker;
      width = d.shape.width;
      height = d.shape.height;
      overlap_x = d.overlap_x;
      overlap_y = d.overlap_y;
      grid_w = d.grid.width;
      grid_h = d.grid.height;
      selector = d.selector;
    }

-- ---- limits

-- one axis, of block side, overlap, grid side and picture side: block side 1 to 256, overlap 0 to block side - 1, grid side 1 to 1,024,
-- picture side 1 to 65,535
unfoldable pub axis_accepted : ℤ → ℤ → ℤ → ℤ → Bool
axis_accepted block overlap grid picture =
    in_range (pos 1) (pos 256) block
    && in_range (pos 0) (block -ℤ pos 1) overlap
    && in_range (pos 1) (pos 1024) grid
    && in_range (pos 1) (pos 65535) picture

-- both axes, and pel 1 to 64; flags and selector are any i32
unfoldable pub shape_accepted : FieldShape → Bool
shape_accepted s =
    axis_accepted s.block_w s.overlap_x s.grid_w s.width
    && axis_accepted s.block_h s.overlap_y s.grid_h s.height
    && in_range (pos 1) (pos 64) s.pel

-- number 2: a shape beyond its limits
unfoldable pub shape_number : FieldShape → ℕ
shape_number s = unless (shape_accepted s) 2

-- ---- counts, of an accepted shape

-- n = grid width × grid height
unfoldable pub blocks_of : FieldShape → ℕ
blocks_of s = up s.grid_w * up s.grid_h

-- area = block width × block height
unfoldable pub area_of : FieldShape → ℕ
area_of s = up s.block_w * up s.block_h

-- step = block side - overlap
abbrev pub step_of : ℤ → ℤ → ℕ
step_of block overlap = up (block -ℤ overlap)

unfoldable pub step_x_of : FieldShape → ℕ
step_x_of s = step_of s.block_w s.overlap_x

unfoldable pub step_y_of : FieldShape → ℕ
step_y_of s = step_of s.block_h s.overlap_y

-- one more than the grid side where the blocks don't reach the picture's end
unfoldable pub packed_of : ℤ → ℤ → ℤ → ℤ → ℕ
packed_of block overlap grid picture = up grid + cond (lt_z ((block -ℤ overlap) *ℤ grid +ℤ overlap) picture) 1 0

-- W and H
unfoldable pub width_of : FieldShape → ℕ
width_of s = packed_of s.block_w s.overlap_x s.grid_w s.width

unfoldable pub height_of : FieldShape → ℕ
height_of s = packed_of s.block_h s.overlap_y s.grid_h s.height

-- ---- a block's number: the blocks of the rows above it, and those before it in its row

-- column and row of a block
unfoldable pub column_of : FieldShape → ℕ → ℕ
column_of s i = i % up s.grid_w

unfoldable pub row_of : FieldShape → ℕ → ℕ
row_of s i = i / up s.grid_w

-- of w columns and h rows of blocks, the block of (x, y): column and row, each at most the last ('Planes': edges repeat)
unfoldable pub block_in : ℕ → ℕ → ℕ → ℕ → ℕ
block_in w h x y = min y (h - 1) * w + min x (w - 1)

-- the block that planes ('Planes') and the SAD mask ('Masks and class') use at (x, y)
unfoldable pub block_at : FieldShape → ℕ → ℕ → ℕ
block_at s x y = block_in (up s.grid_w) (up s.grid_h) x y

-- ---- sizes of lent buffers

-- a set: 8 bytes to an entry
unfoldable pub set_size : FieldShape → ℕ
set_size s = 8 * blocks_of s

-- S = W + 2
unfoldable pub stride_of : FieldShape → ℕ
stride_of s = width_of s + 2

-- the trash cell is the last of S × (H + 2) + 1
unfoldable pub trash_of : FieldShape → ℕ
trash_of s = stride_of s * (height_of s + 2)

unfoldable pub grid_size : FieldShape → ℕ
grid_size s = trash_of s + 1

-- planes and masks
unfoldable pub plane_size : FieldShape → ℕ
plane_size s = width_of s * height_of s
