-- K11 of paper 01's 'Proved table', about the definitions that update's contract cites.
use Rattle.std.specs.Prelude.{◌≡◌, refl, false, ◌&&◌, List, [], ◌∷◌, ℕ, ◌+◌, ℤ, pos, length, Option}
use Rattle.std.proofs.Common.{ap, arith}
use Rattle.std.proofs.lemmas.Bool.{lt-leb}
use Rattle.arith.specs.Booleans.{cond_false, and_not_right}
use Rattle.record.specs.declared.shape.FieldShape.{FieldShape}
use Rattle.record.specs.Bytes.{read_at, i32_at, u32_at}
use Rattle.record.specs.Numbers.{first, unless}
use Rattle.record.specs.Numbers.Laws.{failed}
use Rattle.record.specs.Shape.{shape_accepted, shape_number, axis_accepted, set_size, blocks_of}
use Rattle.record.specs.Checks.{sets_number}
use Rattle.record.specs.Update.{is_value, has_at, has_backward, has_forward, head_good, backward_good, forward_good, payload_number, update_number}
use Rattle.arith.specs.Wrap.{res}

-- the table's shapes: block 8 by 8, no overlap, pel 1, grid 3 by 3, a picture 24 high; of some flags, a picture's width and a selector
unfoldable pub table_field : (flags width selector : ℤ) → FieldShape
table_field flags width selector =
    record {
      flags = flags;
      block_w = pos 8;
      block_h = pos 8;
      pel = pos 1;
      width = width;
      height = pos 24;
      overlap_x = pos 0;
      overlap_y = pos 0;
      grid_w = pos 3;
      grid_h = pos 3;
      selector = selector;
    }

-- picture 24 by 24, selector 0
abbrev pub table_shape : ℤ → FieldShape
table_shape flags = table_field flags (pos 24) (pos 0)

-- i32 16, 160 and 0
unfoldable pub head_bytes : List ℕ
head_bytes = 16 ∷ 0 ∷ 0 ∷ 0 ∷ 160 ∷ 0 ∷ 0 ∷ 0 ∷ 0 ∷ 0 ∷ 0 ∷ 0 ∷ []

-- flags 0: 12 payload bytes suffice, 11 give 4
pub record K11 : Type 0 where
  pub twelve : update_number (table_shape (pos 0)) head_bytes 72 72 ≡ 0
  pub eleven : (p : List ℕ) → length p ≡ 11 → update_number (table_shape (pos 0)) p 72 72 ≡ 4

pub k11 : K11
unfolding table_field head_bytes first unless update_number sets_number shape_number shape_accepted axis_accepted set_size blocks_of payload_number head_good has_at is_value read_at i32_at u32_at backward_good forward_good has_backward has_forward res
k11 = record { twelve = refl; eleven = λ p e. failed _ 4 _ (and_not_right (has_at p 0 (pos 16) && has_at p 4 (pos 160)) _ (short p e)) (λ q. omega arith) }
  where
    short : (p : List ℕ) → length p ≡ 11 → has_at p 8 (pos 0) ≡ false
    short p e = ap (λ (r : Option ℤ). is_value r (pos 0)) (cond_false _ _ _ (lt-leb (8 + 4) (length p) (omega arith)))
