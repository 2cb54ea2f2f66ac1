-- Products held back in a fast row: the grid is short of them until they are released.
use Rattle.std.specs.Prelude.{List, ℕ, ◌+◌, ℤ}
use Rattle.scatter.specs.Added.{plus}
use Rattle.fast.specs.declared.hold.Pending.{Pending}
pub mod Laws

-- a product at cell a, and one at the cell below, in a grid of rows of S cells
unfoldable pub paired : ℕ → ℕ → ℤ → ℤ → List ℤ → List ℤ
paired S a top bottom g = plus (plus g a top) (a + S) bottom

-- what is held goes in
unfoldable pub released : ℕ → Pending → List ℤ → List ℤ
released S p g = paired S p.at p.top p.bottom g

-- the four products of a block whose cells are a, its right neighbour and the two below
unfoldable pub four : ℕ → ℕ → ℤ → ℤ → ℤ → ℤ → List ℤ → List ℤ
four S a v0 v1 v2 v3 g = plus (plus (plus (plus g a v0) (a + 1) v1) (a + 1 + S) v2) (a + S) v3
