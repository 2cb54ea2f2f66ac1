-- K1 and K10 of paper 01's 'Proved table', by computation.
use Rattle.std.specs.Prelude.{◌≡◌, refl, [], ◌∷◌, ℕ, ◌+◌, ◌*◌, ◌<◌, ℤ, pos, ◌*ℤ◌}
use Rattle.std.proofs.Common.{sym, ap, ap₂, ◌∙◌, arith, lit<}
use Rattle.std.proofs.Math.IntN.{*ℤ-zero, zero-*ℤ}
use Rattle.std.specs.Float.Ieee.{of_int, of_bits, mul, div}
use Rattle.std.proofs.lemmas.List.{get_or-replicate}
use Rattle.std.specs.Int.Signed.{quot_z}
use Rattle.arith.specs.Tabulate.{tab, by_rows}
use Rattle.arith.specs.Wrap.{res, wrap32}
use Rattle.record.specs.Bytes.{u16_at, i16_at}
use Rattle.record.specs.declared.shape.FieldShape.{FieldShape}
use Rattle.record.specs.Entries.{entry_at}
use Rattle.record.specs.Shape.{blocks_of, area_of, step_x_of, step_y_of, packed_of, width_of, height_of, stride_of, trash_of, column_of, row_of}
use Rattle.scatter.specs.Block.{t_of, q_of, r_of, l_of, cell_x, cell_y}
use Rattle.scatter.specs.Cells.{inside, index_of, place_of, corners_of, products_of, cells_from, cells_of, cells_at}
use Rattle.scatter.specs.Grid.{hit, gives, total, cell_of}
use Rattle.scatter.specs.Grid.Laws.{total_same}
use Rattle.record.specs.Worked.{table_shape, table_field}
use Rattle.levels.specs.Level.{cover_scale, level_of, cover_value, cover_level}
use Rattle.masks.specs.Cover.{three_of, nine_of, eighth_of, covered_of, cover_byte, line_of, cover_at, cover_bytes, cover_mask_of}
use Rattle.masks.specs.Cover.Laws.{mask_same}
use Rattle.masks.specs.Worked.{zero_set, K1}

-- at time 0
at_zero : (flags : ℤ)
    → cover_mask_of (table_shape flags) (cover_scale (pos 100)) (cell_of (table_shape flags) (pos 0) zero_set) ≡ 128 ∷ 64 ∷ 128 ∷ 64 ∷ 0 ∷ 64 ∷ 128 ∷ 64 ∷ 128 ∷ []
unfolding zero_set table_field tab by_rows res wrap32 u16_at i16_at entry_at blocks_of area_of step_x_of step_y_of packed_of width_of height_of stride_of trash_of column_of row_of t_of q_of r_of l_of cell_x cell_y inside index_of place_of corners_of products_of cells_from cells_of cells_at hit gives total cell_of three_of nine_of eighth_of covered_of cover_byte line_of cover_at cover_bytes cover_mask_of cover_scale cover_value cover_level level_of of_int of_bits mul div
at_zero flags = refl

-- a vector of zero moves at no time
zero_word : (at : ℕ) → at + 1 < 72 → i16_at zero_set at ≡ pos 0
unfolding zero_set i16_at u16_at
zero_word at h = rw (get_or-replicate {A = ℕ} 72 at 0 0 (omega arith), get_or-replicate {A = ℕ} 72 (at + 1) 0 0 (omega arith))

rests : (s : FieldShape) (T v : ℤ) → v ≡ pos 0 → t_of s T v ≡ t_of s (pos 0) v
unfolding t_of
rests s T v e = ap (λ (z : ℤ). quot_z z (pos 256 *ℤ s.pel)) (ap (λ (z : ℤ). T *ℤ z) e ∙ *ℤ-zero T ∙ sym (zero-*ℤ v))

at_any : (flags T : ℤ) (k : ℕ) → cell_of (table_shape flags) T zero_set k ≡ cell_of (table_shape flags) (pos 0) zero_set k
unfolding cell_of cells_at cells_of table_field blocks_of entry_at
at_any flags T k =
    ap wrap32
    (total_same (cells_at (table_shape flags) T zero_set) (cells_at (table_shape flags) (pos 0) zero_set) 0 9 k
    (λ j h.
    ap₂ (cells_from (table_shape flags) (column_of (table_shape flags) (0 + j)) (row_of (table_shape flags) (0 + j))) (rests (table_shape flags) T _ (zero_word (8 * (0 + j) + 2) (omega arith)))
    (rests (table_shape flags) T _ (zero_word (8 * (0 + j)) (omega arith)))))

pub k1 : (flags T : ℤ) → K1 flags T
unfolding cover_mask_of table_field packed_of width_of height_of
k1 flags T =
    record {
      mask =
          mask_same (cover_scale (pos 100)) (area_of (table_shape flags)) 3 3 (cell_of (table_shape flags) T zero_set) (cell_of (table_shape flags) (pos 0) zero_set) (lit< tt)
          (λ k h. at_any flags T k)
          ∙ at_zero flags;
    }
