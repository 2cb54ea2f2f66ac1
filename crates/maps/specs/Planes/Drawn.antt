-- Laws of cells drawn into a buffer: a run, a rectangle, the whole planes, and the cells of one block, which are a rectangle too.
use Rattle.std.specs.Prelude.{◌≡◌, ℕ, ◌+◌, ◌-◌, ◌*◌, ◌<◌, ◌≤◌, min, cond, List, length, ◌==◌, ◌≢◌, slice_index, slice_set, refl}
use Rattle.std.proofs.Math.Path.{sym, ap}
use Rattle.std.proofs.Common.{◌∙◌, subst, mul-le-mul_right, length-set, get_or-set_same, get_or-set_other, eq-eqb, ne_eqb}
use Rattle.std.proofs.Math.Decide.{dec_lt, ℕ_discrete}
use Rattle.std.proofs.Math.Nat.{div-add-mod'}
use native.Mathlib.Omega.{arith}
use Rattle.std.proofs.Math.Arith.{digits_div, digits_mod}
use Rattle.arith.specs.Booleans.{cond_true, cond_false}
use Rattle.arith.specs.Filling.{filled_is}
use Rattle.arith.specs.Integers.{up}
use Rattle.arith.specs.Splice.{over}
use Rattle.arith.specs.Tabulate.{tab}
use Rattle.record.specs.declared.shape.FieldShape.{FieldShape}
use Rattle.record.specs.Shape.Laws.{Accepted, shape_bounds, packed_least, column_below, row_below}
use Rattle.record.specs.Shape.{blocks_of, column_of, row_of, block_in, block_at, width_of, height_of, plane_size}
use Rattle.maps.specs.Planes.{cell_column, cell_row, cell_block, renewed_at, renewed_cells}
use Rattle.maps.specs.Planes.Laws.{column_lt, cell_is, row_lt, row_within_plane, renewed_hit, renewed_miss}

-- ---- cells drawn into a buffer: those of P are f k, and every other value stays

pub record Drawn (P : ℕ → Type 0) (f : ℕ → ℕ) (old new : List ℕ) : Type 0 where
  pub same : length new ≡ length old
  pub inside : (k : ℕ) → P k → slice_index new k ≡ f k
  pub outside : (k : ℕ) → (P k → ⊥) → slice_index new k ≡ slice_index old k

-- a run of cells, and a rectangle of columns and rows
pub record Run (a e k : ℕ) : Type 0 where
  pub from : a ≤ k
  pub to : k < e

pub record InRectangle (s : FieldShape) (x₀ x₁ y₀ y₁ k : ℕ) : Type 0 where
  pub left : x₀ ≤ cell_column s k
  pub right : cell_column s k < x₁
  pub top : y₀ ≤ cell_row s k
  pub bottom : cell_row s k < y₁

module _ (f : ℕ → ℕ) where
  -- nothing drawn yet
  pub drawn_none : {P : ℕ → Type 0} (l : List ℕ) → ((k : ℕ) → P k → ⊥) → Drawn P f l l
  drawn_none l h = record { same = refl; inside = λ k p. absurd (h k p); outside = λ k p. refl }

  -- one more cell of a run
  pub drawn_next : (a e n v : ℕ) (old l : List ℕ) → a ≤ e → e < length old → n ≡ e + 1 → Drawn (Run a e) f old l → v ≡ f e → Drawn (Run a n) f old (slice_set l e v)
  drawn_next a e n v old l h m g d q =
      record {
        same = length-set l e v ∙ d.same;
        inside = λ k r. at k r (ℕ_discrete k e);
        outside = λ k r. past k r (ℕ_discrete k e);
      }
    where
      w : e < length l
      w = omega (arith, d.same)

      at : (k : ℕ) → Run a n k → Dec (k ≡ e) → slice_index (slice_set l e v) k ≡ f k
      at k r (yes i) = ap (λ (j : ℕ). slice_index (slice_set l e v) j) i ∙ get_or-set_same l e v 0 w ∙ q ∙ ap f (sym i)
      at k r (no i) =
          get_or-set_other l e k v 0 i ∙ d.inside k (record { from = r.from; to = omega (arith, r.to) })

      past : (k : ℕ) → (Run a n k → ⊥) → Dec (k ≡ e) → slice_index (slice_set l e v) k ≡ slice_index old k
      past k r (yes i) = absurd (r (record { from = omega arith; to = omega arith }))
      past k r (no i) =
          get_or-set_other l e k v 0 i ∙ d.outside k (λ q. r (record { from = q.from; to = omega (arith, q.to) }))

  -- one more row of a rectangle, of the width w
  pub drawn_rows : (s : FieldShape) → 1 ≤ width_of s → (w x₀ x₁ y₀ y : ℕ) (old l new : List ℕ) → w ≡ width_of s → x₁ ≤ width_of s → y₀ ≤ y
      → Drawn (InRectangle s x₀ x₁ y₀ y) f old l → Drawn (Run (y * w + x₀) (y * w + x₁)) f l new → Drawn (InRectangle s x₀ x₁ y₀ (y + 1)) f old new
  drawn_rows s some w x₀ x₁ y₀ y old l new wide h m d row =
      record {
        same = r.same ∙ d.same;
        inside = λ k p. at k p (ℕ_discrete (cell_row s k) y);
        outside = λ k p.
            r.outside k (λ q. p (in_row k q))
            ∙ d.outside k (λ q. p (record { left = q.left; right = q.right; top = q.top; bottom = omega (arith, q.bottom) }));
      }
    where
      r : Drawn (Run (y * width_of s + x₀) (y * width_of s + x₁)) f l new
      r = subst (λ (n : ℕ). Drawn (Run (y * n + x₀) (y * n + x₁)) f l new) wide row

      -- a cell of the run is in the row y, within the columns
      row_is : (k : ℕ) → Run (y * width_of s + x₀) (y * width_of s + x₁) k → cell_row s k ≡ y
      row_is k q = go (dec_lt (cell_row s k) y) (dec_lt y (cell_row s k))
        where
          go : Dec (cell_row s k < y) → Dec (y < cell_row s k) → cell_row s k ≡ y
          go (yes a) b =
              let g : cell_row s k + 1 ≤ y = omega arith in
              let z : ⊥ = omega (arith, q.from, cell_is s some k, column_lt s some k, mul-le-mul_right (width_of s) g) in
              absurd z
          go (no a) (yes b) =
              let g : y + 1 ≤ cell_row s k = omega arith in
              let z : ⊥ = omega (arith, q.to, cell_is s some k, mul-le-mul_right (width_of s) g) in
              absurd z
          go (no a) (no b) = omega arith

      in_row : (k : ℕ) → Run (y * width_of s + x₀) (y * width_of s + x₁) k → InRectangle s x₀ x₁ y₀ (y + 1) k
      in_row k q =
          let e = ap (λ (n : ℕ). n * width_of s) (row_is k q) in
          let i = cell_is s some k in
          record {
            left = omega (arith, q.from);
            right = omega (arith, q.to);
            top = omega (arith, row_is k q);
            bottom = omega (arith, row_is k q);
          }

      at : (k : ℕ) → InRectangle s x₀ x₁ y₀ (y + 1) k → Dec (cell_row s k ≡ y) → slice_index new k ≡ f k
      at k p (yes e) =
          let g = ap (λ (n : ℕ). n * width_of s) e in
          let i = cell_is s some k in
          r.inside k (record { from = omega (arith, p.left); to = omega (arith, p.right) })
      at k p (no e) =
          r.outside k (λ q. e (row_is k q))
          ∙ d.inside k (record { left = p.left; right = p.right; top = p.top; bottom = omega (arith, p.bottom) })

  -- no cell past the plane is in a rectangle that ends within its rows
  stays : (s : FieldShape) → 1 ≤ width_of s → (x₀ x₁ y₀ y₁ : ℕ) (old new : List ℕ) → y₁ ≤ height_of s → Drawn (InRectangle s x₀ x₁ y₀ y₁) f old new
      → (k : ℕ) → plane_size s ≤ k → slice_index new k ≡ slice_index old k
  stays s some x₀ x₁ y₀ y₁ old new h d k l = d.outside k (λ q. omega (arith, row_within_plane s some k (omega (arith, q.bottom))))

  -- every cell of the planes drawn: the buffer's front is the plane
  pub drawn_all : (s : FieldShape) → 1 ≤ width_of s → (w h : ℕ) (old new : List ℕ) → plane_size s ≤ length old → w ≡ width_of s → h ≡ height_of s
      → Drawn (InRectangle s 0 w 0 h) f old new → new ≡ over (tab f (plane_size s)) old
  drawn_all s some w h old new room e g d =
      filled_is 0 f (plane_size s) new old room d.same
      (λ k l.
      d.inside k (record { left = omega arith; right = omega (arith, column_lt s some k); top = omega arith; bottom = omega (arith, row_lt s some k l) }))
      (stays s some 0 w 0 h old new (omega arith) d)

-- ---- the cells of one block

-- where the cells of a column's or a row's block end: the last block of an axis has all that is left of it
unfoldable pub end_of : ℕ → ℕ → ℕ → ℕ
end_of i grid packed = cond (i + 1 == grid) packed (i + 1)

pub end_last : (i grid packed : ℕ) → i + 1 ≡ grid → end_of i grid packed ≡ packed
unfolding end_of
end_last i grid packed e = cond_true _ packed (i + 1) (eq-eqb (i + 1) grid e)

pub end_inner : (i grid packed : ℕ) → (i + 1 ≢ grid) → end_of i grid packed ≡ i + 1
unfolding end_of
end_inner i grid packed e = cond_false _ packed (i + 1) (ne_eqb (i + 1) grid e)

-- one axis: a cell at i is one of its block's, and its block is the only one that it is of
axis_there : (i grid packed : ℕ) → 1 ≤ grid → i < packed → i < end_of (min i (grid - 1)) grid packed
axis_there i grid packed g h = go (ℕ_discrete (min i (grid - 1) + 1) grid)
  where
    go : Dec (min i (grid - 1) + 1 ≡ grid) → i < end_of (min i (grid - 1)) grid packed
    go (yes e) = omega (arith, end_last (min i (grid - 1)) grid packed e)
    go (no e) =
        let z : min i (grid - 1) + 1 < grid = omega arith in
        omega (arith, end_inner (min i (grid - 1)) grid packed e)

axis_only : (i j grid packed : ℕ) → j < grid → j ≤ i → i < end_of j grid packed → min i (grid - 1) ≡ j
axis_only i j grid packed g h l = go (ℕ_discrete (j + 1) grid)
  where
    go : Dec (j + 1 ≡ grid) → min i (grid - 1) ≡ j
    go (yes e) = omega arith
    go (no e) = omega (arith, end_inner j grid packed e)

axis_end : (j grid packed : ℕ) → j < grid → grid ≤ packed → (j ≤ end_of j grid packed) × (end_of j grid packed ≤ packed)
axis_end j grid packed g h = go (ℕ_discrete (j + 1) grid)
  where
    go : Dec (j + 1 ≡ grid) → (j ≤ end_of j grid packed) × (end_of j grid packed ≤ packed)
    go (yes e) = (omega (arith, end_last j grid packed e), omega (arith, end_last j grid packed e))
    go (no e) = (omega (arith, end_inner j grid packed e), omega (arith, end_inner j grid packed e))

-- where a block's columns and rows end, and the rectangle of its cells
abbrev pub end_x : FieldShape → ℕ → ℕ
end_x s b = end_of (column_of s b) (up s.grid_w) (width_of s)

abbrev pub end_y : FieldShape → ℕ → ℕ
end_y s b = end_of (row_of s b) (up s.grid_h) (height_of s)

abbrev OfBlock : FieldShape → ℕ → ℕ → Type 0
OfBlock s b = InRectangle s (column_of s b) (end_x s b) (row_of s b) (end_y s b)

module _ (s : FieldShape) (a : Accepted s) (b : ℕ) (h : b < blocks_of s) where
  wide : up s.grid_w ≤ width_of s
  unfolding width_of
  wide = packed_least s.block_w s.overlap_x s.grid_w s.width

  high : up s.grid_h ≤ height_of s
  unfolding height_of
  high = packed_least s.block_h s.overlap_y s.grid_h s.height

  pub columns : (column_of s b ≤ end_x s b) × (end_x s b ≤ width_of s)
  columns = axis_end (column_of s b) (up s.grid_w) (width_of s) (column_below s b a) wide

  pub rows : (row_of s b ≤ end_y s b) × (end_y s b ≤ height_of s)
  rows = axis_end (row_of s b) (up s.grid_h) (height_of s) (row_below s b a h) high

  -- a cell is the block's exactly where it is in these columns and rows
  block_there : (k : ℕ) → k < plane_size s → cell_block s k ≡ b → OfBlock s b k
  unfolding cell_block column_of row_of block_at block_in
  block_there k l e =
      let w : ℕ = up s.grid_w in
      let g : ℕ = up s.grid_h in
      let some = (shape_bounds s a).width_least in
      let i = a.x.grid_range.least in
      let j = a.y.grid_range.least in
      let c : ℕ = min (cell_column s k) (w - 1) in
      let r : ℕ = min (cell_row s k) (g - 1) in
      let m : c < w = omega arith in
      let x : column_of s b ≡ c = ap (column_of s) (sym e) ∙ digits_mod r m in
      let y : row_of s b ≡ r = ap (row_of s) (sym e) ∙ digits_div r m in
      record {
        left = omega arith;
        right = rw x (axis_there (cell_column s k) w (width_of s) i (column_lt s some k));
        top = omega arith;
        bottom = rw y (axis_there (cell_row s k) g (height_of s) j (row_lt s some k l));
      }

  block_only : (k : ℕ) → OfBlock s b k → cell_block s k ≡ b
  unfolding cell_block column_of row_of block_at block_in
  block_only k q =
      let w : ℕ = up s.grid_w in
      let g : ℕ = up s.grid_h in
      (λ i.
      axis_only (cell_row s k) (row_of s b) g (height_of s) (row_below s b a h) q.top q.bottom i * w
      + axis_only (cell_column s k) (column_of s b) w (width_of s) (column_below s b a) q.left q.right i)
      ∙ div-add-mod' b w

  -- drawn, they are the block's cells worked out anew
  pub drawn_block : (f : ℕ → ℕ) (old new : List ℕ) → plane_size s ≤ length old → Drawn (OfBlock s b) f old new → new ≡ renewed_cells s b f old
  unfolding renewed_cells
  drawn_block f old new room d =
      filled_is 0 (renewed_at s b f old) (plane_size s) new old room d.same (λ k l. which k l (ℕ_discrete (cell_block s k) b))
      (stays f s (shape_bounds s a).width_least (column_of s b) (end_x s b) (row_of s b) (end_y s b) old new rows.1 d)
    where
      which : (k : ℕ) → k < plane_size s → Dec (cell_block s k ≡ b) → slice_index new k ≡ renewed_at s b f old k
      which k l (yes e) = d.inside k (block_there k l e) ∙ sym (renewed_hit s b f old k e)
      which k l (no e) = d.outside k (λ q. e (block_only k q)) ∙ sym (renewed_miss s b f old k e)
