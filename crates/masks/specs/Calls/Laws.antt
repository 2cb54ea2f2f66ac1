-- What an accepted mask call gives its work: what each ready function requires, and that a call of number 0 has it.
use Rattle.std.specs.Prelude.{◌≡◌, List, ℕ, ◌+◌, ◌*◌, ◌≤◌, ◌<◌, leb, ℤ, pos, Float}
use Rattle.std.proofs.Common.{ap, ap₂, ◌∙◌, mul_comm, arith}
use Rattle.arith.specs.Integers.{up}
use Rattle.arith.specs.Splice.{over}
use Rattle.arith.specs.Splice.Laws.{over_front}
use Rattle.record.specs.declared.shape.FieldShape.{FieldShape}
use Rattle.record.specs.Checks.{sets_number}
use Rattle.record.specs.Checks.Laws.{SetsReady, sets_ready, length_ready}
use Rattle.record.specs.Entries.{side_set}
use Rattle.record.specs.Numbers.{unless}
use Rattle.record.specs.Numbers.Laws.{both_zero}
use Rattle.record.specs.Shape.{blocks_of, area_of, width_of, height_of, set_size, stride_of, trash_of, grid_size, plane_size}
use Rattle.record.specs.Shape.Laws.{Accepted, shape_bounds}
use Rattle.scatter.specs.Geometry.{Timed}
use Rattle.scatter.specs.Geometry.Laws.{number_timed}
use Rattle.scatter.specs.Grid.{cell_of, grid_of}
use Rattle.scatter.specs.Grid.Laws.{length_grid, grid_at}
use Rattle.masks.specs.Cover.{cover_bytes, cover_mask_of}
use Rattle.masks.specs.Cover.Laws.{value_at, mask_same}
use Rattle.masks.specs.Sad.{sad_bytes, sad_mask_of}
use Rattle.masks.specs.Calls.{buffers_number, settings_number, sad_mask_number, cover_mask_number, cover_masked, cover_done}

-- ---- sizes, as the code works them out

-- a product of two numbers, read in the other order
exchanged : {a b m n : ℕ} → m ≡ a → n ≡ b → n * m ≡ a * b
exchanged {a} {b} {m} {n} p q = mul_comm n m ∙ ap₂ (λ (x y : ℕ). x * y) p q

-- what a mask reads and writes lies within
pub blocks_room : (s : FieldShape) (n m k : ℕ) → n ≡ up s.grid_w → m ≡ up s.grid_h → set_size s ≡ k → 8 * (m * n) ≤ k
unfolding set_size blocks_of
blocks_room s n m k p q e = omega (arith, exchanged p q)

pub plane_room : (s : FieldShape) (w h k : ℕ) → w ≡ width_of s → h ≡ height_of s → plane_size s ≤ k → h * w ≤ k
unfolding plane_size
plane_room s w h k p q e = omega (arith, exchanged p q)

pub grid_room : (s : FieldShape) (w h k : ℕ) → w ≡ width_of s → h ≡ height_of s → grid_size s ≤ k → (h + 2) * (w + 2) ≤ k
unfolding grid_size trash_of stride_of
grid_room s w h k p q e = omega (arith, exchanged (ap (λ (x : ℕ). x + 2) p) (ap (λ (x : ℕ). x + 2) q))

-- ---- what the checks leave

pub record BuffersReady (s : FieldShape) (backward forward mask : ℕ) : Type 0 where
  pub sets : SetsReady s backward forward
  pub mask_room : plane_size s ≤ mask

pub buffers_ready : (s : FieldShape) (backward forward mask : ℕ) → buffers_number s backward forward mask ≡ 0 → BuffersReady s backward forward mask
unfolding buffers_number
buffers_ready s backward forward mask e =
    let z = both_zero (sets_number s backward forward) _ e in
    record { sets = sets_ready s backward forward z.0; mask_room = length_ready (plane_size s) mask 3 (λ q. omega arith) z.1 }

pub sad_ready : (s : FieldShape) (side backward forward mask : ℕ) (cover : ℤ) (scale : Float)
    → sad_mask_number s side backward forward mask cover scale ≡ 0 → BuffersReady s backward forward mask
unfolding sad_mask_number
sad_ready s side backward forward mask cover scale e = buffers_ready s backward forward mask (both_zero _ (settings_number side cover scale) e).0

pub record CoverReady (s : FieldShape) (time : ℤ) (backward forward scratch mask : ℕ) : Type 0 where
  pub buffers : BuffersReady s backward forward mask
  pub timed : Timed time
  pub scratch_room : grid_size s ≤ scratch

pub cover_ready : (s : FieldShape) (side backward forward scratch mask : ℕ) (cover : ℤ) (scale : Float) (time : ℤ)
    → cover_mask_number s side backward forward scratch mask cover scale time ≡ 0 → CoverReady s time backward forward scratch mask
unfolding cover_mask_number
cover_ready s side backward forward scratch mask cover scale time e =
    let a = both_zero (buffers_number s backward forward mask) _ e in
    let b = both_zero (unless (leb (grid_size s) scratch) 3) _ a.1 in
    let c = both_zero (settings_number side cover scale) _ b.1 in
    record {
      buffers = buffers_ready s backward forward mask a.0;
      timed = number_timed time c.1;
      scratch_room = length_ready (grid_size s) scratch 3 (λ q. omega arith) b.0;
    }

-- ---- what the work leaves

pub sad_made : (s : FieldShape) (scale : Float) (side area n m w h : ℕ) (b f set mask mask₀ : List ℕ) → area ≡ area_of s → n ≡ up s.grid_w → m ≡ up s.grid_h
    → w ≡ width_of s → h ≡ height_of s → set ≡ side_set s side b f → mask ≡ over (sad_bytes scale area n m w h set) mask₀
    → mask ≡ over (sad_mask_of s scale (side_set s side b f)) mask₀
unfolding sad_mask_of
sad_made s scale side area n m w h b f set mask mask₀ p q r t u v e = cc

pub bytes_made : (s : FieldShape) (scale : Float) (area w h : ℕ) (cell : ℕ → ℤ) (mask mask₀ : List ℕ) → area ≡ area_of s → w ≡ width_of s → h ≡ height_of s
    → mask ≡ over (cover_bytes scale area w h cell) mask₀ → mask ≡ over (cover_mask_of s scale cell) mask₀
unfolding cover_mask_of
bytes_made s scale area w h cell mask mask₀ p q r e = cc

-- a mask of what the scratch holds is that of the grid's cells
cells_made : (s : FieldShape) (scale : Float) (time : ℤ) (set : List ℕ) (scratch scratch₀ : List ℤ) → Accepted s → scratch ≡ over (grid_of s time set) scratch₀
    → cover_mask_of s scale (value_at scratch) ≡ cover_mask_of s scale (cell_of s time set)
unfolding cover_mask_of grid_size trash_of stride_of
cells_made s scale time set scratch scratch₀ a e =
    mask_same scale (area_of s) (width_of s) (height_of s) (value_at scratch) (cell_of s time set) (shape_bounds s a).width_least
    (λ k h.
    let l : k < grid_size s = omega arith in
    ap (λ (g : List ℤ). value_at g k) e ∙ over_front (grid_of s time set) scratch₀ k (pos 0) (rw (length_grid s time set) l) ∙ grid_at s time set k l)

pub cover_made : (s : FieldShape) (side : ℕ) (b f : List ℕ) (scale : Float) (time : ℤ) (set : List ℕ) (scratch scratch₀ : List ℤ) (mask mask₀ : List ℕ) → Accepted s
    → set ≡ side_set s side b f → scratch ≡ over (grid_of s time set) scratch₀ → mask ≡ over (cover_mask_of s scale (value_at scratch)) mask₀
    → cover_masked 0 scratch mask ≡ cover_done s side b f scale time scratch₀ mask₀
unfolding cover_done
cover_made s side b f scale time set scratch scratch₀ mask mask₀ a e p q =
    let m : mask ≡ over (cover_mask_of s scale (cell_of s time set)) mask₀ =
    q ∙ ap (λ (t : List ℕ). over t mask₀) (cells_made s scale time set scratch scratch₀ a p) in
    rw (m, p, e)
