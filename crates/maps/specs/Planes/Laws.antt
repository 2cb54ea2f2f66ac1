-- Laws of the planes: the column, the row and the block of a cell, its value by its block's entry, cells worked out anew, the front of a set, and the
-- planes' lengths.
use Rattle.std.specs.Prelude.{◌≡◌, ℕ, ◌+◌, ◌*◌, ◌<◌, ◌≤◌, ◌≢◌, List, length, take, ◌==◌, slice_index}
use Rattle.std.proofs.Math.Path.{refl}
use Rattle.std.proofs.Common.{ap, ◌∙◌, mul-le-mul, mul_comm, div-lt_iff_lt-mul, arith, eq-eqb, ne_eqb}
use Rattle.std.proofs.Math.Nat.{mod-lt, div-add-mod'}
use Rattle.std.proofs.Math.Arith.{digits_lt, digits_div, digits_mod}
use Rattle.arith.specs.Booleans.{cond_true, cond_false}
use Rattle.arith.specs.Filling.{fill_length, filled_at}
use Rattle.arith.specs.Splice.{over}
use Rattle.arith.specs.Tabulate.Laws.{tab_same}
use Rattle.record.specs.declared.shape.FieldShape.{FieldShape}
use Rattle.record.specs.Shape.Laws.{Accepted, shape_bounds, block_below}
use Rattle.record.specs.Shape.{blocks_of, block_in, block_at, set_size, width_of, height_of, plane_size}
use Rattle.record.specs.Entries.{entry_at}
use Rattle.record.specs.Entries.Again.{entry_front}
use Rattle.maps.specs.Planes.{cell_column, cell_row, cell_block, cell_at, x_at, y_at, x_plane, y_plane, Planes, planes, planes_made, renewed_at, renewed_cells}

-- what the functions on planes require: an accepted shape, and buffers as long as it asks
pub record PlanesReady (s : FieldShape) (set xs ys : ℕ) : Type 0 where
  pub accepted : Accepted s
  pub set_room : set_size s ≤ set
  pub x_room : plane_size s ≤ xs
  pub y_room : plane_size s ≤ ys

-- and the width that those on rows are given
pub record PlanesSized (s : FieldShape) (w set xs ys : ℕ) : Type 0 where
  pub ready : PlanesReady s set xs ys
  pub width : w ≡ width_of s

-- ---- a cell's column and row

module _ (s : FieldShape) (some : 1 ≤ width_of s) where
  pub column_lt : (k : ℕ) → cell_column s k < width_of s
  unfolding cell_column
  column_lt k = mod-lt k some

  pub cell_is : (k : ℕ) → cell_row s k * width_of s + cell_column s k ≡ k
  unfolding cell_column cell_row
  cell_is k = div-add-mod' k (width_of s)

  -- a cell of the planes has a row below the height, and no other has
  pub row_lt : (k : ℕ) → k < plane_size s → cell_row s k < height_of s
  unfolding plane_size cell_row
  row_lt k h = (div-lt_iff_lt-mul some).1 (rw (mul_comm (height_of s) (width_of s)) h)

  pub row_within_plane : (k : ℕ) → cell_row s k < height_of s → k < plane_size s
  unfolding plane_size cell_row
  row_within_plane k h = rw (mul_comm (width_of s) (height_of s)) ((div-lt_iff_lt-mul some).0 h)

-- the block of a column and a row is one of the grid's
pub block_lt : (s : FieldShape) → Accepted s → (x y : ℕ) → block_at s x y < blocks_of s
unfolding block_at block_in
block_lt s a x y =
    let w = a.x.grid_range.least in
    let h = a.y.grid_range.least in
    block_below s _ _ (omega arith) (omega arith)

pub plane_most : (s : FieldShape) → Accepted s → plane_size s ≤ 1050625
unfolding plane_size
plane_most s a = mul-le-mul (shape_bounds s a).width_most (shape_bounds s a).height_most

-- the cell of a column and a row is in the planes
pub cell_lt : (s : FieldShape) (w x y : ℕ) → w ≡ width_of s → x < w → y < height_of s → y * w + x < plane_size s
unfolding plane_size
cell_lt s w x y e h l = rw (← e, mul_comm w (height_of s)) (digits_lt l h)

-- the cell of that number is the cell of the column and the row
cell_at_lem : (s : FieldShape) (set : List ℕ) (w x y : ℕ) → w ≡ width_of s → x < w → cell_at s set (cell_column s (y * w + x)) (cell_row s (y * w + x)) ≡ cell_at s set x y
unfolding cell_column cell_row
cell_at_lem s set w x y e h =
    let l : x < width_of s = omega arith in
    ap (λ (n : ℕ). cell_at s set (cell_column s (y * n + x)) (cell_row s (y * n + x))) e
    ∙ (λ i. cell_at s set (digits_mod y l i) (digits_div y l i))

pub x_at_lem : (s : FieldShape) (set : List ℕ) (w x y : ℕ) → w ≡ width_of s → x < w → x_at s set (y * w + x) ≡ (cell_at s set x y).x
unfolding x_at
x_at_lem s set w x y e h = λ i. (cell_at_lem s set w x y e h i).x

pub y_at_lem : (s : FieldShape) (set : List ℕ) (w x y : ℕ) → w ≡ width_of s → x < w → y_at s set (y * w + x) ≡ (cell_at s set x y).y
unfolding y_at
y_at_lem s set w x y e h = λ i. (cell_at_lem s set w x y e h i).y

-- ---- a cell is a function of its block's entry

cell_same : (s : FieldShape) (set set' : List ℕ) (x y : ℕ) → entry_at set (block_at s x y) ≡ entry_at set' (block_at s x y) → cell_at s set x y ≡ cell_at s set' x y
unfolding cell_at
cell_same s set set' x y e = rw e

module _ (s : FieldShape) (set set' : List ℕ) (k : ℕ) (e : entry_at set (cell_block s k) ≡ entry_at set' (cell_block s k)) where
  pub x_same : x_at s set k ≡ x_at s set' k
  unfolding x_at cell_block
  x_same = λ i. (cell_same s set set' (cell_column s k) (cell_row s k) e i).x

  pub y_same : y_at s set k ≡ y_at s set' k
  unfolding y_at cell_block
  y_same = λ i. (cell_same s set set' (cell_column s k) (cell_row s k) e i).y

-- ---- a buffer with one block's cells worked out anew

module _ (s : FieldShape) (b : ℕ) (f : ℕ → ℕ) (l : List ℕ) (k : ℕ) where
  pub renewed_hit : cell_block s k ≡ b → renewed_at s b f l k ≡ f k
  unfolding renewed_at
  renewed_hit e = cond_true (cell_block s k == b) (f k) (slice_index l k) (eq-eqb (cell_block s k) b e)

  pub renewed_miss : cell_block s k ≢ b → renewed_at s b f l k ≡ slice_index l k
  unfolding renewed_at
  renewed_miss e = cond_false (cell_block s k == b) (f k) (slice_index l k) (ne_eqb (cell_block s k) b e)

  pub renewed_at_lem : k < plane_size s → slice_index (renewed_cells s b f l) k ≡ renewed_at s b f l k
  unfolding renewed_cells
  renewed_at_lem h = filled_at (renewed_at s b f l) (renewed_cells s b f l) l (plane_size s) k 0 refl h

-- ---- pack: the front of a set

pub planes_front : (s : FieldShape) → Accepted s → (set : List ℕ) (p : Planes) → planes_made s (take (set_size s) set) p ≡ planes_made s set p
unfolding planes_made x_plane y_plane cell_block
planes_front s a set p =
    λ i.
    planes
    (over (tab_same (x_at s (take (set_size s) set)) (x_at s set) (plane_size s) (λ k h. x_same s (take (set_size s) set) set k (at k)) i) p.xs)
    (over (tab_same (y_at s (take (set_size s) set)) (y_at s set) (plane_size s) (λ k h. y_same s (take (set_size s) set) set k (at k)) i) p.ys)
  where
    at : (k : ℕ) → entry_at (take (set_size s) set) (cell_block s k) ≡ entry_at set (cell_block s k)
    at k = entry_front s set (cell_block s k) (block_lt s a (cell_column s k) (cell_row s k))

pub length_xs_made : (s : FieldShape) (set : List ℕ) (p : Planes) → plane_size s ≤ length p.xs → length (planes_made s set p).xs ≡ length p.xs
unfolding planes_made x_plane
length_xs_made s set p h = fill_length (x_at s set) (planes_made s set p).xs p.xs (plane_size s) h refl

pub length_ys_made : (s : FieldShape) (set : List ℕ) (p : Planes) → plane_size s ≤ length p.ys → length (planes_made s set p).ys ≡ length p.ys
unfolding planes_made y_plane
length_ys_made s set p h = fill_length (y_at s set) (planes_made s set p).ys p.ys (plane_size s) h refl
