-- The four cells of a block and its four products (paper 01, 'Scatter').
use Rattle.std.specs.Prelude.{Bool, cond, ◌&&◌, List, [], ◌∷◌, ℕ, ◌+◌, ◌*◌, ◌<◌, ℤ, pos, ◌+ℤ◌, ◌*ℤ◌, get_or}
use Rattle.std.specs.Int.Signed.{le_z, lt_z}
use Rattle.arith.specs.Integers.{up}
use Rattle.record.specs.declared.shape.FieldShape.{FieldShape}
use Rattle.record.specs.Shape.{step_x_of, step_y_of, width_of, height_of, stride_of, trash_of, column_of, row_of}
use Rattle.record.specs.Entries.{entry_at}
use Rattle.scatter.specs.declared.geometry.Cells.{Cells}
use Rattle.scatter.specs.Block.{t_of, r_of, l_of, cell_x, cell_y}
pub mod Laws

-- whether (x, y) is one of the W × H cells within the border
unfoldable pub inside : FieldShape → ℤ → ℤ → Bool
inside s x y = le_z (pos 0) x && lt_z x (pos (width_of s)) && le_z (pos 0) y && lt_z y (pos (height_of s))

-- the index of such a cell: a row of S cells is above the first row, and one cell before each row's first
unfoldable pub index_of : FieldShape → ℕ → ℕ → ℕ
index_of s x y = (y + 1) * stride_of s + x + 1

-- where a product for (x, y) goes: to its cell, or to the trash cell where it has none
unfoldable pub place_of : FieldShape → ℤ → ℤ → ℕ
place_of s x y = cond (inside s x y) (index_of s (up x) (up y)) (trash_of s)

-- the four cells of a block whose first is (cx, cy), in the paper's order: that one, the one on its right, the one below that, the one
-- below the first
unfoldable pub corners_of : FieldShape → ℤ → ℤ → List ℕ
corners_of s cx cy = place_of s cx cy ∷ place_of s (cx +ℤ pos 1) cy ∷ place_of s (cx +ℤ pos 1) (cy +ℤ pos 1) ∷ place_of s cx (cy +ℤ pos 1) ∷ []

-- its products in that order: ry × rx, ry × lx, ly × lx, rx × ly
unfoldable pub products_of : ℤ → ℤ → ℤ → ℤ → List ℤ
products_of rx lx ry ly = (ry *ℤ rx) ∷ (ry *ℤ lx) ∷ (ly *ℤ lx) ∷ (rx *ℤ ly) ∷ []

-- a block at column bx, row by that has moved by tx, ty
unfoldable pub cells_from : FieldShape → ℕ → ℕ → ℤ → ℤ → Cells
cells_from s bx by tx ty =
    record {
      at = corners_of s (cell_x s bx tx) (cell_y s by ty);
      value =
          products_of (r_of (step_x_of s) tx) (l_of s.block_w (step_x_of s) tx)
          (r_of (step_y_of s) ty) (l_of s.block_h (step_y_of s) ty);
    }

-- block i with vector x, y at time T
unfoldable pub cells_of : FieldShape → ℤ → ℕ → ℤ → ℤ → Cells
cells_of s T i x y = cells_from s (column_of s i) (row_of s i) (t_of s T x) (t_of s T y)

-- block i of a set of entries
unfoldable pub cells_at : FieldShape → ℤ → List ℕ → ℕ → Cells
cells_at s T set i = cells_of s T i (entry_at set i).x (entry_at set i).y

-- ---- the four indices and the four values

abbrev pub at_of : Cells → ℕ → ℕ
at_of c j = get_or c.at j 0

abbrev pub value_of : Cells → ℕ → ℤ
value_of c j = get_or c.value j (pos 0)

-- the four indices are below n
pub record Within (c : Cells) (n : ℕ) : Type 0 where
  pub at0 : at_of c 0 < n
  pub at1 : at_of c 1 < n
  pub at2 : at_of c 2 < n
  pub at3 : at_of c 3 < n

-- the four values together
unfoldable pub whole_of : Cells → ℤ
whole_of c = value_of c 0 +ℤ value_of c 1 +ℤ value_of c 2 +ℤ value_of c 3
