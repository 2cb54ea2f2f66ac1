-- The coverage grid of a set at a time, by its cells (paper 01, 'Scatter').
use Rattle.std.specs.Prelude.{cond, List, [], ◌∷◌, ℕ, zero, suc, ◌+◌, eqb, ℤ, pos, ◌+ℤ◌}
use Rattle.arith.specs.Tabulate.{tab}
use Rattle.arith.specs.Wrap.{wrap32}
use Rattle.record.specs.declared.shape.FieldShape.{FieldShape}
use Rattle.record.specs.Shape.{blocks_of, grid_size}
use Rattle.scatter.specs.declared.geometry.Cells.{Cells}
use Rattle.scatter.specs.Cells.{cells_at, at_of, value_of}
pub mod Laws

-- what v at index a gives to cell k
unfoldable pub hit : ℕ → ℕ → ℤ → ℤ
hit a k v = cond (eqb a k) v (pos 0)

-- what a block gives to cell k: several of its four indices may be k
unfoldable pub gives : Cells → ℕ → ℤ
gives c k = hit (at_of c 0) k (value_of c 0) +ℤ hit (at_of c 1) k (value_of c 1) +ℤ hit (at_of c 2) k (value_of c 2) +ℤ hit (at_of c 3) k (value_of c 3)

-- the exact sum of what n blocks from block i on give to cell k
unfoldable pub total : (ℕ → Cells) → ℕ → ℕ → ℕ → ℤ
total f i zero k = pos 0
total f i (suc n) k = total f i n k +ℤ gives (f (i + n)) k

-- cell k: what all blocks give to it, modulo 2^32, read as signed
unfoldable pub cell_of : FieldShape → ℤ → List ℕ → ℕ → ℤ
cell_of s T set k = wrap32 (total (cells_at s T set) 0 (blocks_of s) k)

-- the plain scatter, from zero: all cells, trash last (`grid_run`)
unfoldable pub grid_of : FieldShape → ℤ → List ℕ → List ℤ
grid_of s T set = tab (cell_of s T set) (grid_size s)

-- ---- definitions for its laws

-- what a scatter starts from
abbrev pub zeros : ℕ → List ℤ
zeros n = tab (λ _. pos 0) n

-- all cells of a grid together
unfoldable pub sum_of : List ℤ → ℤ
sum_of [] = pos 0
sum_of (z ∷ g) = z +ℤ sum_of g
