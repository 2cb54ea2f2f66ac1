-- What a fast row and its chunks require of a set and a grid.
use Rattle.std.specs.Prelude.{◌≡◌, true, List, ℕ, ◌+◌, ◌*◌, ◌≤◌, ◌<◌, ℤ, pos, get_or}
use Rattle.std.specs.Int.{w32}
use Rattle.std.proofs.Common.{SFits}
use Rattle.arith.specs.Integers.{up}
use Rattle.record.specs.Shape.{set_size, grid_size}
use Rattle.scatter.specs.declared.geometry.Scatter.{Scatter}
use Rattle.fast.specs.declared.condition.Fast.{Fast}
use Rattle.scatter.specs.Geometry.{Geometry}
use Rattle.fast.specs.Condition.{fast_row, Quick}
use Rattle.fast.specs.Lanes.{lanes}
pub mod Laws

-- `count` blocks of a row from a column on, of which the first is block `start`, by the lengths of a set and a grid
pub record ChunkRoom (g : Scatter) (f : Fast) (start column row count set grid : ℕ) : Type 0 where
  pub quick : Quick g f
  pub start_is : start ≡ row * up g.shape.grid_w + column
  pub columns : column + count ≤ up g.shape.grid_w
  pub count_most : count ≤ lanes
  pub row_below : row < up g.shape.grid_h
  pub set_room : set_size g.shape ≤ set
  pub grid_room : grid_size g.shape ≤ grid

-- the first n cells are i32
pub record SignedGrid (n : ℕ) (g : List ℤ) : Type 0 where
  pub fits : (k : ℕ) → k < n → SFits w32 (get_or g k (pos 0))

-- what a fast scatter requires, by the lengths of a set and a grid
pub record FastRoom (g : Scatter) (set grid : ℕ) : Type 0 where
  pub geometry : Geometry g
  pub taken : fast_row g.shape ≡ true
  pub set_room : set_size g.shape ≤ set
  pub grid_room : grid_size g.shape ≤ grid
