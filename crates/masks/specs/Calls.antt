-- The two mask calls: which are accepted, and what each answers and leaves (paper 01, 'Masks and class' and 'Refused calls').
use Rattle.std.specs.Prelude.{Bool, cond, ◌&&◌, List, ℕ, eqb, leb, ℤ, Float, length}
use Rattle.arith.specs.Splice.{over}
use Rattle.record.specs.declared.shape.FieldShape.{FieldShape}
use Rattle.record.specs.Checks.{sets_number, side_number}
use Rattle.record.specs.Entries.{side_set}
use Rattle.record.specs.Numbers.{first, unless}
use Rattle.record.specs.Shape.{grid_size, plane_size}
use Rattle.levels.specs.Level.{cover_accepted, sad_scale_accepted, cover_scale}
use Rattle.scatter.specs.Geometry.{time_number}
use Rattle.scatter.specs.Grid.{cell_of, grid_of}
use Rattle.masks.specs.Cover.{cover_mask_of}
use Rattle.masks.specs.Sad.{sad_mask_of}
pub mod Laws

-- ---- what both calls check, in order

-- each call judges the cover and the SAD scale, also the one that it doesn't use
unfoldable pub settings_accepted : ℤ → Float → Bool
settings_accepted cover scale = cover_accepted cover && sad_scale_accepted scale

-- 2 the shape; 3 a set or the mask too short
unfoldable pub buffers_number : FieldShape → ℕ → ℕ → ℕ → ℕ
buffers_number s backward forward mask = first (sets_number s backward forward) (unless (leb (plane_size s) mask) 3)

-- 8 the side; 7 the cover or the SAD scale
unfoldable pub settings_number : ℕ → ℤ → Float → ℕ
settings_number side cover scale = first (side_number side) (unless (settings_accepted cover scale) 7)

-- ---- cover_mask

-- its number, of the lengths of sets, scratch and mask: 2 and 3 as above; 3 a scratch too short for a grid; 8 and 7 as above; 7 the time
unfoldable pub cover_mask_number : FieldShape → ℕ → ℕ → ℕ → ℕ → ℕ → ℤ → Float → ℤ → ℕ
cover_mask_number s side backward forward scratch mask cover scale time =
    first (buffers_number s backward forward mask)
    (first (unless (leb (grid_size s) scratch) 3) (first (settings_number side cover scale) (time_number time)))

-- what it answers and leaves
pub record CoverMasked : Type 0 where
  pub number : ℕ
  pub scratch : List ℤ
  pub mask : List ℕ

abbrev pub cover_masked : ℕ → List ℤ → List ℕ → CoverMasked
cover_masked number scratch mask = record { number = number; scratch = scratch; mask = mask }

-- accepted: the scratch holds the grid, the mask is that of its cells; the surplus of both stays
unfoldable pub cover_done : FieldShape → ℕ → List ℕ → List ℕ → Float → ℤ → List ℤ → List ℕ → CoverMasked
cover_done s side backward forward scale time scratch mask =
    let set : List ℕ = side_set s side backward forward in
    cover_masked 0 (over (grid_of s time set) scratch) (over (cover_mask_of s scale (cell_of s time set)) mask)

-- refused, all stays
unfoldable pub cover_mask_call : FieldShape → ℕ → List ℕ → List ℕ → ℤ → Float → ℤ → List ℤ → List ℕ → CoverMasked
cover_mask_call s side backward forward cover scale time scratch mask =
    let number : ℕ = cover_mask_number s side (length backward) (length forward) (length scratch) (length mask) cover scale time in
    cond (eqb number 0) (cover_done s side backward forward (cover_scale cover) time scratch mask) (cover_masked number scratch mask)

-- ---- sad_mask

-- its number, of the lengths of sets and mask: 2 and 3, then 8 and 7, as above
unfoldable pub sad_mask_number : FieldShape → ℕ → ℕ → ℕ → ℕ → ℤ → Float → ℕ
sad_mask_number s side backward forward mask cover scale =
    first (buffers_number s backward forward mask) (settings_number side cover scale)

-- what it answers and leaves
pub record SadMasked : Type 0 where
  pub number : ℕ
  pub mask : List ℕ

abbrev pub sad_masked : ℕ → List ℕ → SadMasked
sad_masked number mask = record { number = number; mask = mask }

-- accepted: the mask's W × H bytes are new; its surplus stays
unfoldable pub sad_done : FieldShape → ℕ → List ℕ → List ℕ → Float → List ℕ → SadMasked
sad_done s side backward forward scale mask = sad_masked 0 (over (sad_mask_of s scale (side_set s side backward forward)) mask)

-- refused, all stays
unfoldable pub sad_mask_call : FieldShape → ℕ → List ℕ → List ℕ → ℤ → Float → List ℕ → SadMasked
sad_mask_call s side backward forward cover scale mask =
    let number : ℕ = sad_mask_number s side (length backward) (length forward) (length mask) cover scale in
    cond (eqb number 0) (sad_done s side backward forward scale mask) (sad_masked number mask)
