-- Laws of the score and the map.
use Rattle.std.specs.Prelude.{◌≡◌, ℕ, ◌<◌, ◌≤◌, List, length, take, slice_index, refl}
use Rattle.std.proofs.Common.{ap}
use Rattle.arith.specs.Filling.{fill_length}
use Rattle.arith.specs.Splice.{over}
use Rattle.arith.specs.Tabulate.Laws.{tab_same}
use Rattle.record.specs.declared.shape.FieldShape.{FieldShape}
use Rattle.record.specs.Entries.Again.{entry_front}
use Rattle.record.specs.Shape.{blocks_of, set_size}
use Rattle.record.specs.Shape.Laws.{Accepted}
use Rattle.maps.specs.declared.map.SceneLimits.{SceneLimits}
use Rattle.maps.specs.Map.{score_of, score_at, map_byte, map_at, map_of, map_made}

-- what a fill requires: an accepted shape, and buffers as long as it asks
pub record MapReady (s : FieldShape) (set averages map : ℕ) : Type 0 where
  pub accepted : Accepted s
  pub set_room : set_size s ≤ set
  pub averages_room : blocks_of s ≤ averages
  pub map_room : blocks_of s ≤ map

-- ---- quality_map: the front of a set

pub score_front : (s : FieldShape) (set averages : List ℕ) (i : ℕ) → i < blocks_of s → score_at (take (set_size s) set) averages i ≡ score_at set averages i
unfolding score_at
score_front s set averages i h = λ j. score_of (entry_front s set i h j).sad (slice_index averages i)

pub map_front : (s : FieldShape) (l : SceneLimits) (set averages map : List ℕ) → map_made s l (take (set_size s) set) averages map ≡ map_made s l set averages map
unfolding map_made map_of map_at
map_front s l set averages map =
    ap (λ (t : List ℕ). over t map)
    (tab_same (map_at l (take (set_size s) set) averages) (map_at l set averages) (blocks_of s)
    (λ k h. ap (map_byte l) (score_front s set averages k h)))

pub length_map_made : (s : FieldShape) (l : SceneLimits) (sads averages m : List ℕ) → blocks_of s ≤ length m → length (map_made s l sads averages m) ≡ length m
unfolding map_made map_of
length_map_made s l sads averages m h =
    fill_length (map_at l sads averages) (map_made s l sads averages m) m (blocks_of s) h refl
