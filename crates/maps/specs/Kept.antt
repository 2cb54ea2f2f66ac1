-- The counts that a session keeps of its shown side (paper 02, request 1): made afresh from the vectors, and adjusted with each edit.
use Rattle.std.specs.Prelude.{ℕ, ◌+◌, ◌-◌, ◌%◌, List, ℤ}
use Rattle.arith.specs.Wrap.{M}
use Rattle.record.specs.declared.shape.FieldShape.{FieldShape}
use Rattle.record.specs.Entries.{entry_at, set_of}
use Rattle.maps.specs.declared.map.SceneLimits.{SceneLimits}
use Rattle.maps.specs.declared.class.Counts.{Counts}
use Rattle.maps.specs.Luma.{average_at, averages_of}
use Rattle.maps.specs.Map.{score_of}
use Rattle.maps.specs.Class.{tally, weight_of, counts_of}

-- made afresh from the vectors: paper 01's counts of a side, with the averages of both sets
unfoldable pub counts_from : FieldShape → SceneLimits → List ℕ → ℕ → List ℕ → List ℕ → Counts
counts_from s l table side backward forward = counts_of s l (set_of side backward forward) (averages_of s table backward forward)

-- block i's score from the two sets and the luma table: no lent average is read
unfoldable pub score_from : List ℕ → ℕ → List ℕ → List ℕ → ℕ → ℤ
score_from table side backward forward i = score_of (entry_at (set_of side backward forward) i).sad (average_at table backward forward i)

-- one count, less what a block gave to it and more what it gives now, modulo 2^32
unfoldable pub moved_count : ℕ → ℕ → ℕ → ℕ
moved_count count before after = (count + (M - before) + after) % M

-- the counts after an edit, by its block's score before and after it
unfoldable pub adjusted : SceneLimits → ℤ → ℤ → Counts → Counts
adjusted l before after c =
    let b : Counts = weight_of l before in
    let a : Counts = weight_of l after in
    tally
    (moved_count c.counted b.counted a.counted)
    (moved_count c.scene b.scene a.scene)
    (moved_count c.m2 b.m2 a.m2)
    (moved_count c.m1 b.m1 a.m1)
