-- The cover mask of a grid of cells (paper 01, 'Masks and class'), over a function from a cell's index to its value.
use Rattle.std.specs.Prelude.{cond, List, ℕ, ◌+◌, ◌*◌, ℤ, pos, ◌+ℤ◌, Float}
use Rattle.std.specs.Int.Signed.{lt_z}
use Rattle.arith.specs.Floor.{floor_n}
use Rattle.arith.specs.Tabulate.{tab, by_rows}
use Rattle.arith.specs.Wrap.{wrap32}
use Rattle.record.specs.declared.shape.FieldShape.{FieldShape}
use Rattle.record.specs.Shape.{area_of, width_of, height_of}
use Rattle.levels.specs.Level.{cover_level}
pub mod Laws

-- ---- one byte, from three rows of cells

-- three cells of a row from column x on
unfoldable pub three_of : (ℕ → ℤ) → ℕ → ℤ
three_of row x = row x +ℤ row (x + 1) +ℤ row (x + 2)

-- s: a cell and its eight neighbours, summed as an i32 that may wrap
unfoldable pub nine_of : (ℕ → ℤ) → (ℕ → ℤ) → (ℕ → ℤ) → ℕ → ℤ
nine_of above middle below x = wrap32 (three_of above x +ℤ three_of middle x +ℤ three_of below x)

-- s >> 3: an eighth of s, floored, so that it is negative where s is
unfoldable pub eighth_of : ℤ → ℤ
eighth_of s = floor_n s 8

-- c = min(s >> 3, area)
unfoldable pub covered_of : ℕ → ℤ → ℤ
covered_of area s = cond (lt_z (eighth_of s) (pos area)) (eighth_of s) (pos area)

unfoldable pub cover_byte : Float → ℕ → (ℕ → ℤ) → (ℕ → ℤ) → (ℕ → ℤ) → ℕ → ℕ
cover_byte scale area above middle below x = cover_level scale area (covered_of area (nine_of above middle below x))

-- ---- a row of bytes

unfoldable pub cover_row : Float → ℕ → (ℕ → ℤ) → (ℕ → ℤ) → (ℕ → ℤ) → ℕ → List ℕ
cover_row scale area above middle below w = tab (cover_byte scale area above middle below) w

-- ---- the mask

-- row y of a grid of rows of S cells
unfoldable pub line_of : ℕ → (ℕ → ℤ) → ℕ → ℕ → ℤ
line_of stride cell y x = cell (y * stride + x)

-- the byte at (x, y). Cell (x, y) has index (y + 1) × S + x + 1, so that it and its eight neighbours are in rows y, y + 1 and y + 2, in
-- columns x, x + 1 and x + 2
unfoldable pub cover_at : Float → ℕ → ℕ → (ℕ → ℤ) → ℕ → ℕ → ℕ
cover_at scale area stride cell x y = cover_byte scale area (line_of stride cell y) (line_of stride cell (y + 1)) (line_of stride cell (y + 2)) x

-- w × h bytes, row by row, of a grid of w + 2 columns
unfoldable pub cover_bytes : Float → ℕ → ℕ → ℕ → (ℕ → ℤ) → List ℕ
cover_bytes scale area w h cell = tab (by_rows (cover_at scale area (w + 2) cell) w) (w * h)

-- paper 01's cover mask, of a shape
unfoldable pub cover_mask_of : FieldShape → Float → (ℕ → ℤ) → List ℕ
cover_mask_of s scale cell = cover_bytes scale (area_of s) (width_of s) (height_of s) cell
