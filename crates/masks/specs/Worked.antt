-- K1 and K10 of paper 01's 'Proved table', by computation.
use Rattle.std.specs.Prelude.{◌≡◌, refl, List, [], ◌∷◌, ◌++◌, ℕ, ℤ, pos, Float, replicate}
use Rattle.std.specs.Float.{binary64}
use Rattle.std.specs.Float.Ieee.{of_int, of_bits, mul, div}
use Rattle.arith.specs.Tabulate.{tab, by_rows}
use Rattle.record.specs.Bytes.{u24_at}
use Rattle.record.specs.Entries.{entry_at}
use Rattle.record.specs.Shape.{area_of, packed_of, width_of, height_of, block_in}
use Rattle.scatter.specs.Grid.{cell_of}
use Rattle.record.specs.Worked.{table_shape, table_field}
use Rattle.levels.specs.Level.{cover_scale, level_of, sad_value, sad_level}
use Rattle.masks.specs.Cover.{cover_mask_of}
use Rattle.masks.specs.Sad.{sad_at, sad_byte, sad_bytes, sad_mask_of}

-- ---- K1

-- nine entries of zero bytes
unfoldable pub zero_set : List ℕ
zero_set = replicate 72 0

-- zero vectors, cover 100, at any time: the grid is that of the set, by the scatter's definition
pub record K1 (flags T : ℤ) : Type 0 where
  pub mask :
      cover_mask_of (table_shape flags) (cover_scale (pos 100)) (cell_of (table_shape flags) T zero_set)
      ≡ 128 ∷ 64 ∷ 128 ∷ 64 ∷ 0 ∷ 64 ∷ 128 ∷ 64 ∷ 128 ∷ []

-- ---- K10

-- an entry of zero vector and luma, with a sad below 256
abbrev entry_of : ℕ → List ℕ
entry_of sad = 0 ∷ 0 ∷ 0 ∷ 0 ∷ sad ∷ 0 ∷ 0 ∷ 0 ∷ []

-- nine entries, the first of sad 8, the second of sad 16
unfoldable pub sad_set : List ℕ
sad_set = entry_of 8 ++ (entry_of 16 ++ replicate 56 0)

-- 1.0
abbrev f1 : Float
f1 = of_bits binary64 0x3ff0_0000_0000_0000

-- SAD scale 1: sad 8 gives 127, sad 16 gives 255
pub record K10 (flags : ℤ) : Type 0 where
  pub mask : sad_mask_of (table_shape flags) f1 sad_set ≡ 127 ∷ 255 ∷ 0 ∷ 0 ∷ 0 ∷ 0 ∷ 0 ∷ 0 ∷ 0 ∷ []

pub k10 : (flags : ℤ) → K10 flags
unfolding sad_set table_field tab by_rows u24_at entry_at area_of packed_of width_of height_of sad_at block_in sad_byte sad_bytes sad_mask_of sad_value sad_level level_of of_int of_bits mul div
k10 flags = record { mask = refl }
