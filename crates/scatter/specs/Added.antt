-- A block's products added to a grid of any contents, and taken from it, modulo 2^32 (paper 01, 'Scatter' and 'Session').
use Rattle.std.specs.Prelude.{◌≡◌, List, ℕ, zero, suc, ◌+◌, ◌*◌, ℤ, pos, ◌+ℤ◌, ◌-ℤ◌, get_or, set}
use Rattle.std.proofs.Common.{SFits}
use Rattle.std.specs.Int.{w32}
use Rattle.arith.specs.Integers.{up}
use Rattle.arith.specs.Wrap.{wrap32}
use Rattle.record.specs.declared.entry.BlockVector.{BlockVector}
use Rattle.record.specs.declared.shape.FieldShape.{FieldShape}
use Rattle.scatter.specs.declared.geometry.Cells.{Cells}
use Rattle.scatter.specs.Cells.{cells_of, cells_at, at_of, value_of}
pub mod Laws

-- v added to cell a, and taken from it
unfoldable pub plus : List ℤ → ℕ → ℤ → List ℤ
plus g a v = set g a (wrap32 (get_or g a (pos 0) +ℤ v))

unfoldable pub minus : List ℤ → ℕ → ℤ → List ℤ
minus g a v = set g a (wrap32 (get_or g a (pos 0) -ℤ v))

-- all four
unfoldable pub added : List ℤ → Cells → List ℤ
added g c = plus (plus (plus (plus g (at_of c 0) (value_of c 0)) (at_of c 1) (value_of c 1)) (at_of c 2) (value_of c 2)) (at_of c 3) (value_of c 3)

unfoldable pub removed : List ℤ → Cells → List ℤ
removed g c =
    minus (minus (minus (minus g (at_of c 0) (value_of c 0)) (at_of c 1) (value_of c 1)) (at_of c 2) (value_of c 2)) (at_of c 3) (value_of c 3)

-- the first k of the four changed, by an operation of a cell's value and its product
unfoldable pub changed : (ℤ → ℤ → ℤ) → Cells → List ℤ → ℕ → List ℤ
changed op c g zero = g
changed op c g (suc k) =
    let l : List ℤ = changed op c g k in
    set l (at_of c k) (op (get_or l (at_of c k) (pos 0)) (value_of c k))

-- what is answered of two i32 is what the operation gives
unfoldable pub Computes : (ℤ → ℤ → ℤ → Type 0) → (ℤ → ℤ → ℤ) → Type 0
Computes answers op = (x y r : ℤ) → SFits w32 x → SFits w32 y → answers x y r → r ≡ op x y

-- the cells of n blocks from block i on, one after the other
unfoldable pub added_run : (ℕ → Cells) → ℕ → ℕ → List ℤ → List ℤ
added_run f i zero g = g
added_run f i (suc n) g = added (added_run f i n g) (f (i + n))

-- the cells of the blocks of one row
unfoldable pub row_added : FieldShape → ℤ → List ℕ → ℕ → List ℤ → List ℤ
row_added s T set row g = added_run (cells_at s T set) (row * up s.grid_w) (up s.grid_w) g

-- the patch of a grid as block i's entry changes: without what the old one gave, with what the new one gives
unfoldable pub patched : FieldShape → ℤ → ℕ → BlockVector → BlockVector → List ℤ → List ℤ
patched s T i old new g = added (removed g (cells_of s T i old.x old.y)) (cells_of s T i new.x new.y)
