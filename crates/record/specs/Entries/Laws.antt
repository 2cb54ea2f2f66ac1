-- Laws of entries: what was written is read, a write changes one entry only, and the part of a side's set that is handed on has its length.
use Rattle.std.specs.Prelude.{◌≡◌, refl, ◌≢◌, List, [], ◌∷◌, ℕ, ◌+◌, ◌-◌, ◌*◌, ◌/◌, ◌%◌, ◌≤◌, ◌<◌, eqb, ℤ, length}
use Rattle.std.proofs.Math.Path.{sym, ap}
use Rattle.std.proofs.Common.{◌∙◌, length-take-le, SFits, to_z, of_z}
use Rattle.std.proofs.Math.Decide.{dec_lt}
use native.Mathlib.Omega.{arith}
use Rattle.std.proofs.Math.IntN.{pos}
use Rattle.std.proofs.Math.ListN.{get_or}
use Rattle.std.proofs.Math.Facts.{Fits-of_z}
use mir.Syntax.{w16}
use Rattle.arith.specs.Booleans.{cond_elim}
use Rattle.arith.specs.Integers.{up}
use Rattle.arith.specs.Signed.{back}
use Rattle.arith.specs.Splice.{splice}
use Rattle.arith.specs.Splice.Laws.{length_splice, splice_before, splice_in, splice_after}
use Rattle.record.specs.declared.entry.BlockVector.{BlockVector}
use Rattle.record.specs.Bytes.{u16_at, u24_at, i16_at, u32_bytes, pair_bytes}
use Rattle.record.specs.Bytes.Laws.{two_again, three_again}
use Rattle.record.specs.declared.shape.FieldShape.{FieldShape}
use Rattle.record.specs.Shape.{set_size}
use Rattle.record.specs.Entries.{entry_at, entry_bytes, with_entry, set_of, side_set, Holds}

-- ---- lengths

pub length_entry_bytes : (v : BlockVector) → length (entry_bytes v) ≡ 8
unfolding entry_bytes
length_entry_bytes v = refl

pub length_with_entry : (set : List ℕ) (i : ℕ) (v : BlockVector) → 8 * i + 8 ≤ length set → length (with_entry set i v) ≡ length set
unfolding with_entry
length_with_entry set i v h = length_splice (8 * i) (entry_bytes v) set (rw (length_entry_bytes v) h)

-- ---- the set of a side

-- what holds of both sets holds of it
pub set_either : {A : Type 0} (P : A → Type 0) (side : ℕ) (b f : A) → P b → P f → P (set_of side b f)
unfolding set_of
set_either P side b f h l = cond_elim P (eqb side 1) b f (λ e. h) (λ e. l)

pub length_side_set : (s : FieldShape) (side : ℕ) (b f : List ℕ) → set_size s ≤ length b → set_size s ≤ length f → length (side_set s side b f) ≡ set_size s
unfolding side_set
length_side_set s side b f h l = length-take-le (set_size s) _ (set_either (λ (x : List ℕ). set_size s ≤ length x) side b f h l)

-- ---- as two words, as the code writes it: y and x, then sad and luma
pub bytes_words : (v : BlockVector) (p e : ℕ) → Holds v → p ≡ of_z w16 v.y + 65536 * of_z w16 v.x → e ≡ up v.sad + 16777216 * v.luma
    → pair_bytes p e ≡ entry_bytes v
unfolding pair_bytes u32_bytes entry_bytes
bytes_words v p e h f g =
    let a = (Fits-of_z h.y).fits in
    let b = (Fits-of_z h.x).fits in
    let s = h.sad_most_lem in
    let l = h.luma in
    let e0 : p % 256 ≡ of_z w16 v.y % 256 = omega arith in
    let q1 : p / 256 ≡ of_z w16 v.y / 256 + 256 * of_z w16 v.x = omega arith in
    let e1 : p / 256 % 256 ≡ of_z w16 v.y / 256 = ap (λ (n : ℕ). n % 256) q1 ∙ omega arith in
    let q2 : p / 65536 ≡ of_z w16 v.x = omega arith in
    let e2 : p / 65536 % 256 ≡ of_z w16 v.x % 256 = ap (λ (n : ℕ). n % 256) q2 in
    let e3 : p / 16777216 ≡ of_z w16 v.x / 256 = omega arith in
    let e4 : e % 256 ≡ up v.sad % 256 = omega arith in
    let q5 : e / 256 ≡ up v.sad / 256 + 65536 * v.luma = omega arith in
    let e5 : e / 256 % 256 ≡ up v.sad / 256 % 256 = ap (λ (n : ℕ). n % 256) q5 ∙ omega arith in
    let q6 : e / 65536 ≡ up v.sad / 65536 + 256 * v.luma = omega arith in
    let e6 : e / 65536 % 256 ≡ up v.sad / 65536 = ap (λ (n : ℕ). n % 256) q6 ∙ omega arith in
    let e7 : e / 16777216 ≡ v.luma = omega arith in
    λ i. e0 i ∷ e1 i ∷ e2 i ∷ e3 i ∷ e4 i ∷ e5 i ∷ e6 i ∷ e7 i ∷ []

-- ---- only its 8 bytes count

-- entries of the same 8 bytes are the same
pub entry_of : (a b : List ℕ) (i j : ℕ) → ((k : ℕ) → k < 8 → get_or a (8 * i + k) 0 ≡ get_or b (8 * j + k) 0) → entry_at a i ≡ entry_at b j
unfolding entry_at i16_at u16_at u24_at
entry_of a b i j h =
    λ t. record {
      x = to_z w16 (h 2 (omega arith) t + 256 * at 3 (8 * i + 2 + 1) (8 * j + 2 + 1) (omega arith) (omega arith) (omega arith) t);
      y = to_z w16 (at 0 (8 * i) (8 * j) (omega arith) (omega arith) (omega arith) t + 256 * h 1 (omega arith) t);
      sad =
          pos
          (h 4 (omega arith) t
          + 256 * at 5 (8 * i + 4 + 1) (8 * j + 4 + 1) (omega arith) (omega arith) (omega arith) t
          + 65536 * at 6 (8 * i + 4 + 2) (8 * j + 4 + 2) (omega arith) (omega arith) (omega arith) t);
      luma = h 7 (omega arith) t;
    }
  where
    at : (k m n : ℕ) → k < 8 → m ≡ 8 * i + k → n ≡ 8 * j + k → get_or a m 0 ≡ get_or b n 0
    at k m n l e f = ap (λ (p : ℕ). get_or a p 0) e ∙ h k l ∙ ap (λ (p : ℕ). get_or b p 0) (sym f)

-- ---- what was written is read

module _ (set : List ℕ) (i : ℕ) (v : BlockVector) (room : 8 * i + 8 ≤ length set) where
  byte_in : (k : ℕ) → k < 8 → get_or (with_entry set i v) (8 * i + k) 0 ≡ get_or (entry_bytes v) k 0
  unfolding with_entry
  byte_in k h = splice_in (8 * i) (entry_bytes v) set k 0 (omega arith) (rw (length_entry_bytes v) h)

  next : (k m : ℕ) → k < 8 → m ≡ 8 * i + k → get_or (with_entry set i v) m 0 ≡ get_or (entry_bytes v) k 0
  next k m h e = ap (λ (n : ℕ). get_or (with_entry set i v) n 0) e ∙ byte_in k h

  -- two bytes of the entry, read as a signed number
  word_in : (k : ℕ) (z : ℤ) → k + 1 < 8 → SFits w16 z → get_or (entry_bytes v) k 0 ≡ of_z w16 z % 256 → get_or (entry_bytes v) (k + 1) 0 ≡ of_z w16 z / 256
      → i16_at (with_entry set i v) (8 * i + k) ≡ z
  unfolding i16_at u16_at
  word_in k z h f e g =
      ap (to_z w16)
      ((λ j. (byte_in k (omega arith) ∙ e) j + 256 * (next (k + 1) (8 * i + k + 1) (omega arith) (omega arith) ∙ g) j) ∙ two_again (of_z w16 z))
      ∙ back w16 f

  pub entry_written : Holds v → entry_at (with_entry set i v) i ≡ v
  unfolding entry_at u24_at entry_bytes
  entry_written h =
      λ j. record {
        x = word_in 2 v.x (omega arith) h.x x0 x1 j;
        y = (ap (i16_at (with_entry set i v)) start ∙ word_in 0 v.y (omega arith) h.y y0 y1) j;
        sad = (ap pos sad_in ∙ sym h.sad_is) j;
        luma = (byte_in 7 (omega arith) ∙ l7) j;
      }
    where
      start : 8 * i ≡ 8 * i + 0
      start = omega arith

      x0 : get_or (entry_bytes v) 2 0 ≡ of_z w16 v.x % 256
      x0 = refl

      x1 : get_or (entry_bytes v) 3 0 ≡ of_z w16 v.x / 256
      x1 = refl

      y0 : get_or (entry_bytes v) 0 0 ≡ of_z w16 v.y % 256
      y0 = refl

      y1 : get_or (entry_bytes v) 1 0 ≡ of_z w16 v.y / 256
      y1 = refl

      l7 : get_or (entry_bytes v) 7 0 ≡ v.luma
      l7 = refl

      s4 : get_or (with_entry set i v) (8 * i + 4) 0 ≡ up v.sad % 256
      s4 = byte_in 4 (omega arith)

      s5 : get_or (with_entry set i v) (8 * i + 4 + 1) 0 ≡ up v.sad / 256 % 256
      s5 = next 5 (8 * i + 4 + 1) (omega arith) (omega arith)

      s6 : get_or (with_entry set i v) (8 * i + 4 + 2) 0 ≡ up v.sad / 65536
      s6 = next 6 (8 * i + 4 + 2) (omega arith) (omega arith)

      sad_in : get_or (with_entry set i v) (8 * i + 4) 0 + 256 * get_or (with_entry set i v) (8 * i + 4 + 1) 0 + 65536 * get_or (with_entry set i v) (8 * i + 4 + 2) 0 ≡ up v.sad
      sad_in = (λ j. s4 j + 256 * s5 j + 65536 * s6 j) ∙ three_again (up v.sad)

  -- ---- a write changes one entry only

  -- its own bytes, and the others
  pub byte_written : (k : ℕ) → 8 * i ≤ k → k < 8 * i + 8 → get_or (with_entry set i v) k 0 ≡ get_or (entry_bytes v) (k - 8 * i) 0
  byte_written k h l = next (k - 8 * i) k (omega arith) (omega arith)

  pub byte_kept : (k : ℕ) → (8 * i ≤ k → k < 8 * i + 8 → ⊥) → get_or (with_entry set i v) k 0 ≡ get_or set k 0
  unfolding with_entry
  byte_kept k h = go (dec_lt k (8 * i)) (dec_lt k (8 * i + 8))
    where
      go : Dec (k < 8 * i) → Dec (k < 8 * i + 8) → get_or (splice (8 * i) (entry_bytes v) set) k 0 ≡ get_or set k 0
      go (yes l) m = splice_before (8 * i) (entry_bytes v) set k 0 (omega arith) l
      go (no l) (yes m) = absurd (h (omega arith) m)
      go (no l) (no m) = splice_after (8 * i) (entry_bytes v) set k 0 (omega arith) (rw (length_entry_bytes v) (omega arith))

  pub entry_kept : (j : ℕ) → j ≢ i → entry_at (with_entry set i v) j ≡ entry_at set j
  entry_kept j ne = entry_of _ _ j j (λ k l. byte_kept (8 * j + k) (λ h m. ne (omega arith)))
