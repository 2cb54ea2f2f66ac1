-- K2 and K3 of paper 01's 'Proved table', by computation.
use Rattle.std.specs.Prelude.{◌≡◌, refl, ℕ, ◌≢◌, ℤ, pos, negsuc, ◌+ℤ◌}
use Rattle.record.specs.Shape.{step_x_of, step_y_of, packed_of, width_of, height_of, stride_of, trash_of, column_of, row_of}
use Rattle.record.specs.Worked.{table_shape, table_field}
use Rattle.scatter.specs.Block.{t_of, q_of, r_of, l_of, cell_x, cell_y}
use Rattle.scatter.specs.Cells.{inside, index_of, place_of, corners_of, products_of, cells_from, cells_of}
use Rattle.scatter.specs.Grid.{hit, gives}
use Rattle.scatter.specs.Added.Laws.{hit_other, hit_nothing}

-- block 0's own cell is (0, 0), and (1, 0) is on its right; no other cell is given anything
pub record K2 (flags : ℤ) : Type 0 where
  pub own : gives (cells_of (table_shape flags) (pos 128) 0 (negsuc 2) (pos 0)) (place_of (table_shape flags) (pos 0) (pos 0)) ≡ pos 56
  pub trash : gives (cells_of (table_shape flags) (pos 128) 0 (negsuc 2) (pos 0)) (trash_of (table_shape flags)) ≡ pos 8
  pub rest :
      (k : ℕ) → k ≢ place_of (table_shape flags) (pos 0) (pos 0) → k ≢ trash_of (table_shape flags)
      → gives (cells_of (table_shape flags) (pos 128) 0 (negsuc 2) (pos 0)) k ≡ pos 0

pub record K3 (flags : ℤ) : Type 0 where
  pub own : gives (cells_of (table_shape flags) (pos 256) 0 (pos 4) (pos 0)) (place_of (table_shape flags) (pos 0) (pos 0)) ≡ pos 32
  pub right : gives (cells_of (table_shape flags) (pos 256) 0 (pos 4) (pos 0)) (place_of (table_shape flags) (pos 1) (pos 0)) ≡ pos 32
  pub rest :
      (k : ℕ) → k ≢ place_of (table_shape flags) (pos 0) (pos 0) → k ≢ place_of (table_shape flags) (pos 1) (pos 0)
      → gives (cells_of (table_shape flags) (pos 256) 0 (pos 4) (pos 0)) k ≡ pos 0

pub k2 : (flags : ℤ) → K2 flags
unfolding table_field step_x_of step_y_of packed_of width_of height_of stride_of trash_of column_of row_of t_of q_of r_of l_of cell_x cell_y inside index_of place_of corners_of products_of cells_from cells_of hit gives
k2 flags =
    record {
      own = refl;
      trash = refl;
      rest =
          λ k o t i. hit_other 25 k (pos 8) t i +ℤ hit_other 6 k (pos 56) o i +ℤ hit_nothing 11 k i +ℤ hit_nothing 25 k i;
    }

pub k3 : (flags : ℤ) → K3 flags
unfolding table_field step_x_of step_y_of packed_of width_of height_of stride_of trash_of column_of row_of t_of q_of r_of l_of cell_x cell_y inside index_of place_of corners_of products_of cells_from cells_of hit gives
k3 flags =
    record {
      own = refl;
      right = refl;
      rest =
          λ k o r i. hit_other 6 k (pos 32) o i +ℤ hit_other 7 k (pos 32) r i +ℤ hit_nothing 12 k i +ℤ hit_nothing 11 k i;
    }
