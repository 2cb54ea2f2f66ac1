-- The score of each block, and the map of scores (paper 01, 'Luma and map').
use Rattle.std.specs.Prelude.{ℕ, max, cond, ◌&&◌, List, length, set, ℤ, pos, ◌*ℤ◌, ◌==◌, int_div, int_lt, nat_le, slice_index, slice_set}
use Rattle.arith.specs.Splice.{over}
use Rattle.arith.specs.Tabulate.{tab}
use Rattle.arith.specs.Wrap.{wrap32}
use Rattle.record.specs.declared.shape.FieldShape.{FieldShape}
use Rattle.record.specs.Shape.{blocks_of}
use Rattle.record.specs.Entries.{entry_at, set_of}
use Rattle.record.specs.Checks.{sets_number, side_number}
use Rattle.record.specs.Numbers.{first, unless}
use Rattle.maps.specs.declared.map.SceneLimits.{SceneLimits}
pub mod Laws

-- a score: 255 times the sad, as an i32 that may wrap, over the average, or over 1 where that is 0; rounded towards 0
unfoldable pub score_of : ℤ → ℕ → ℤ
score_of sad average = int_div (wrap32 (sad *ℤ pos 255)) (pos (max average 1))

-- the map byte of a score: 255 below `zero`; else 0, 1 or 2 as m1, m2 or scene, tried in this order, is the first above it; 3 where none is
unfoldable pub map_byte : SceneLimits → ℤ → ℕ
map_byte l score =
    cond (int_lt score l.zero) 255 (cond (int_lt score l.m1) 0 (cond (int_lt score l.m2) 1 (cond (int_lt score l.scene) 2 3)))

-- the score of block i: a set's sad with the averages that are lent
unfoldable pub score_at : List ℕ → List ℕ → ℕ → ℤ
score_at set averages i = score_of (entry_at set i).sad (slice_index averages i)

unfoldable pub map_at : SceneLimits → List ℕ → List ℕ → ℕ → ℕ
map_at l set averages i = map_byte l (score_at set averages i)

-- paper 01's map, a byte for each block
unfoldable pub map_of : FieldShape → SceneLimits → List ℕ → List ℕ → List ℕ
map_of s l set averages = tab (map_at l set averages) (blocks_of s)

-- the map written to the front of a buffer, whose surplus stays
unfoldable pub map_made : FieldShape → SceneLimits → List ℕ → List ℕ → List ℕ → List ℕ
map_made s l set averages m = over (map_of s l set averages) m

-- one block's byte worked out anew; every other byte stays
unfoldable pub map_patched : SceneLimits → List ℕ → List ℕ → ℕ → List ℕ → List ℕ
map_patched l sads averages b m = slice_set m b (map_at l sads averages b)

-- ---- quality_map

-- 2 the shape; 3 a set, the averages or the map too short; 8 the side
unfoldable pub map_number : FieldShape → ℕ → ℕ → ℕ → ℕ → ℕ → ℕ
map_number s side backward forward averages map =
    first (sets_number s backward forward) (first (unless (nat_le (blocks_of s) averages && nat_le (blocks_of s) map) 3) (side_number side))

-- what quality_map answers and leaves
pub record Mapped : Type 0 where
  pub number : ℕ
  pub backward : List ℕ
  pub forward : List ℕ
  pub averages : List ℕ
  pub map : List ℕ

abbrev pub mapped : ℕ → List ℕ → List ℕ → List ℕ → List ℕ → Mapped
mapped number backward forward averages map =
    record { number = number; backward = backward; forward = forward; averages = averages; map = map }

unfoldable pub quality_map_of : FieldShape → ℕ → SceneLimits → List ℕ → List ℕ → List ℕ → List ℕ → Mapped
quality_map_of s side l b f averages map =
    let number : ℕ = map_number s side (length b) (length f) (length averages) (length map) in
    cond (number == 0) (mapped 0 b f averages (map_made s l (set_of side b f) averages map)) (mapped number b f averages map)
