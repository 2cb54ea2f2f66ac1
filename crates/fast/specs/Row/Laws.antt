-- Laws of a fast row: runs of blocks that agree, the blocks of a chunk, nothing held at a row's start, and cells that stay i32.
use Rattle.std.specs.Prelude.{◌≡◌, refl, List, ℕ, zero, suc, ◌+◌, ◌*◌, ◌≤◌, ◌<◌, ℤ, pos, length, get_or, set}
use Rattle.std.proofs.Common.{sym, ap, ◌∙◌, subst, arith, SFits}
use Rattle.std.proofs.Math.IntN.{+ℤ_idr}
use Rattle.std.proofs.lemmas.List.{set-get_or}
use Rattle.std.specs.Int.{w32}
use Rattle.arith.specs.Filling.{filled_at}
use Rattle.arith.specs.Integers.{up}
use Rattle.arith.specs.Splice.{over}
use Rattle.arith.specs.Wrap.{wrap32}
use Rattle.arith.specs.Wrap.Laws.{wrap_id, wrap_zero, wrap_fits}
use Rattle.record.specs.declared.shape.FieldShape.{FieldShape}
use Rattle.record.specs.Shape.{stride_of, trash_of, grid_size, step_x_of, step_y_of, set_size}
use Rattle.record.specs.Shape.Laws.{row_within}
use Rattle.record.specs.Entries.{entry_at}
use Rattle.scatter.specs.declared.geometry.Cells.{Cells}
use Rattle.scatter.specs.declared.geometry.Scatter.{Scatter}
use Rattle.scatter.specs.Cells.{cells_from, cells_at}
use Rattle.scatter.specs.Cells.Laws.{at_place, at_within, within_more}
use Rattle.scatter.specs.Grid.{zeros}
use Rattle.scatter.specs.Added.{plus, added, added_run}
use Rattle.scatter.specs.Added.Laws.{run_at}
use Rattle.fast.specs.Held.{paired, released}
use Rattle.fast.specs.Lanes.{across_at, down_at, Moved, lane_cells}
use Rattle.fast.specs.declared.condition.Fast.{Fast}
use Rattle.fast.specs.Row.{SignedGrid, ChunkRoom}

-- ---- runs

run_same : (f h : ℕ → Cells) (i j n : ℕ) (g : List ℤ) → ((k : ℕ) → k < n → f (i + k) ≡ h (j + k)) → added_run f i n g ≡ added_run h j n g
unfolding added_run
run_same f h i j zero g e = refl
run_same f h i j (suc n) g e = λ l. added (run_same f h i j n g (λ k m. e k (omega arith)) l) (e n (omega arith) l)

-- the lanes of a chunk are blocks of the row
pub run_chunk : (s : FieldShape) (T : ℤ) (set : List ℕ) (start row column count : ℕ) (tx ty qx qy g : List ℤ)
    → start ≡ row * up s.grid_w + column → column + count ≤ up s.grid_w
    → Moved s T (step_x_of s) (across_at set start) count tx qx → Moved s T (step_y_of s) (down_at set start) count ty qy
    → added_run (lane_cells s column row tx ty) 0 count g ≡ added_run (cells_at s T set) start count g
unfolding lane_cells
run_chunk s T set start row column count tx ty qx qy g e h mx my =
    run_same (lane_cells s column row tx ty) (cells_at s T set) 0 start count g
    (λ k l.
    let z : 0 + k ≡ k = omega arith in
    let b : start + k ≡ row * up s.grid_w + (column + k) = omega arith in
    ap (lane_cells s column row tx ty) z
    ∙ (λ i. cells_from s (column + k) row (mx.moved k l i) (my.moved k l i))
    ∙ at_place s T set row (column + k) (up s.grid_w) (across_at set start k) (down_at set start k) refl (omega arith)
    (ap (λ (j : ℕ). (entry_at set j).x) b) (ap (λ (j : ℕ). (entry_at set j).y) b)
    ∙ ap (cells_at s T set) (sym b))

-- ---- nothing held

plus_none : (g : List ℤ) (a : ℕ) → a < length g → SFits w32 (get_or g a (pos 0)) → plus g a (pos 0) ≡ g
unfolding plus
plus_none g a h f = ap (set g a) (ap wrap32 (+ℤ_idr (get_or g a (pos 0))) ∙ wrap_id (get_or g a (pos 0)) f) ∙ set-get_or g a (pos 0)

-- the stride is the index of a cell
pub stride_below : (s : FieldShape) → 0 + stride_of s < grid_size s
unfolding grid_size trash_of
stride_below s = omega arith

pub released_none : (s : FieldShape) (g : List ℤ) → grid_size s ≤ length g → SignedGrid (grid_size s) g
    → released (stride_of s) (record { at = 0; top = pos 0; bottom = pos 0 }) g ≡ g
unfolding released paired
released_none s g h f =
    let l = stride_below s in
    ap (λ (x : List ℤ). plus x (0 + stride_of s) (pos 0)) (plus_none g 0 (omega arith) (f.fits 0 (omega arith)))
    ∙ plus_none g (0 + stride_of s) (omega arith) (f.fits (0 + stride_of s) l)

-- ---- cells stay i32

pub run_signed : (s : FieldShape) (T : ℤ) (set : List ℕ) (n : ℕ) (g l : List ℤ) → grid_size s ≤ length g
    → ((k : ℕ) → k < grid_size s → get_or g k (pos 0) ≡ pos 0) → l ≡ added_run (cells_at s T set) 0 n g → SignedGrid (grid_size s) l
run_signed s T set n g l h z e =
    record {
      fits =
          λ k m.
          subst (λ (x : List ℤ). SFits w32 (get_or x k (pos 0))) (sym e)
          (subst (SFits w32)
          (sym
          (run_at (cells_at s T set) 0 n g k (pos 0) (λ j o. within_more _ (grid_size s) (length g) h (at_within s T set (0 + j)))
          (z k m ∙ sym wrap_zero)))
          (wrap_fits _));
    }

-- ---- room

-- the entries of a chunk are in the set
pub chunk_room : (g : Scatter) (f : Fast) (start column row count n m : ℕ) → ChunkRoom g f start column row count n m → 8 * (start + count) ≤ n
unfolding set_size
chunk_room g f start column row count n m r = omega (arith, row_within g.shape row r.row_below, r.start_is, r.columns, r.set_room)

-- ---- a grid that starts at zero

pub zeros_at : (n : ℕ) (l : List ℤ) (k : ℕ) → k < n → get_or (over (zeros n) l) k (pos 0) ≡ pos 0
zeros_at n l k h = filled_at (λ _. pos 0) _ l n k (pos 0) refl h
