-- The average luma of each block (paper 01, 'Luma and map').
use Rattle.std.specs.Prelude.{ℕ, ◌+◌, cond, ◌&&◌, List, length, set, ◌==◌, nat_le, slice_index, slice_set}
use Rattle.arith.specs.Splice.{over}
use Rattle.arith.specs.Tabulate.{tab}
use Rattle.record.specs.declared.shape.FieldShape.{FieldShape}
use Rattle.record.specs.Shape.{blocks_of}
use Rattle.record.specs.Entries.{entry_at}
use Rattle.record.specs.Checks.{sets_number}
use Rattle.record.specs.Numbers.{first, unless}
pub mod Laws

-- how many bytes the luma table has
abbrev pub table_size : ℕ
table_size = 511

-- block i's average: what the table has for the sum of its lumas in both sets
unfoldable pub average_at : List ℕ → List ℕ → List ℕ → ℕ → ℕ
average_at table backward forward i = slice_index table ((entry_at backward i).luma + (entry_at forward i).luma)

-- paper 01's averages, one for each block
unfoldable pub averages_of : FieldShape → List ℕ → List ℕ → List ℕ → List ℕ
averages_of s table backward forward = tab (average_at table backward forward) (blocks_of s)

-- the averages of both sets written to the front of a buffer, whose surplus stays
unfoldable pub averages_made : FieldShape → List ℕ → List ℕ → List ℕ → List ℕ → List ℕ
averages_made s table backward forward l = over (averages_of s table backward forward) l

-- one block's average worked out anew; every other byte stays
unfoldable pub average_patched : List ℕ → List ℕ → List ℕ → ℕ → List ℕ → List ℕ
average_patched table backward forward b l = slice_set l b (average_at table backward forward b)

-- ---- avg_luma

-- 2 the shape; 3 a set, the table or the averages too short
unfoldable pub luma_number : FieldShape → ℕ → ℕ → ℕ → ℕ → ℕ
luma_number s backward forward table averages =
    first (sets_number s backward forward) (unless (nat_le table_size table && nat_le (blocks_of s) averages) 3)

-- what avg_luma answers and leaves
pub record Averaged : Type 0 where
  pub number : ℕ
  pub backward : List ℕ
  pub forward : List ℕ
  pub table : List ℕ
  pub averages : List ℕ

abbrev pub averaged : ℕ → List ℕ → List ℕ → List ℕ → List ℕ → Averaged
averaged number backward forward table averages =
    record { number = number; backward = backward; forward = forward; table = table; averages = averages }

unfoldable pub luma_of : FieldShape → List ℕ → List ℕ → List ℕ → List ℕ → Averaged
luma_of s b f table averages =
    let number : ℕ = luma_number s (length b) (length f) (length table) (length averages) in
    cond (number == 0) (averaged 0 b f table (averages_made s table b f averages)) (averaged number b f table averages)
