-- Laws of lists of bytes, of numbers in them, and of zeros over the front of a list.
use Rattle.std.specs.Prelude.{◌≡◌, refl, ℤ, length, take, drop, set, replicate, Option, Some, None}
use Rattle.std.proofs.Common.{sym, ◌∙◌, subst, le-leb, get_or-drop, SFits, to_z, of_z}
use Rattle.std.proofs.Math.Path.{ap}
use mathlib.Core.List.{List, [], ◌∷◌, ◌++◌}
use Prim.Native.Nat.{ℕ, zero, suc, ◌+◌, ◌*◌, ◌/◌, ◌%◌, ◌≤◌, ◌<◌}
use native.Mathlib.Omega.{arith}
use Rattle.std.proofs.lemmas.List.Edits.{fill_more}
use Rattle.std.proofs.lemmas.List.{length-replicate}
use Rattle.std.specs.Int.{w16, w32}
use mir.ValLaws.{to_z-Fits}
use Rattle.arith.specs.Booleans.{cond_true}
use Rattle.arith.specs.Signed.{back}
use Rattle.arith.specs.Splice.{over, splice}
use Rattle.arith.specs.Tabulate.{tab}
use Rattle.record.specs.Bytes.{Bytes, u16_at, u32_at, u32_bytes, i16_at, i32_at, read_at}

-- ---- lists of bytes

pub bytes_nil : Bytes []
bytes_nil zero = omega arith
bytes_nil (suc k) = omega arith

pub bytes_cons : (b : ℕ) (l : List ℕ) → b < 256 → Bytes l → Bytes (b ∷ l)
bytes_cons b l h m zero = h
bytes_cons b l h m (suc k) = m k

pub one_byte : (a : ℕ) → a < 256 → Bytes (a ∷ [])
one_byte a h = bytes_cons a [] h bytes_nil

pub bytes_append : (a b : List ℕ) → Bytes a → Bytes b → Bytes (a ++ b)
bytes_append [] b h m k = m k
bytes_append (x ∷ a) b h m zero = h zero
bytes_append (x ∷ a) b h m (suc k) = bytes_append a b (λ j. h (suc j)) m k

pub bytes_take : (n : ℕ) (l : List ℕ) → Bytes l → Bytes (take n l)
bytes_take zero l h k = bytes_nil k
bytes_take (suc n) [] h k = bytes_nil k
bytes_take (suc n) (x ∷ l) h zero = h zero
bytes_take (suc n) (x ∷ l) h (suc k) = bytes_take n l (λ j. h (suc j)) k

pub bytes_drop : (n : ℕ) (l : List ℕ) → Bytes l → Bytes (drop n l)
bytes_drop n l h k = subst (λ (m : ℕ). m < 256) (sym (get_or-drop n l k 0)) (h (n + k))

pub bytes_zeros : (n : ℕ) → Bytes (replicate n 0)
bytes_zeros zero k = bytes_nil k
bytes_zeros (suc n) zero = omega arith
bytes_zeros (suc n) (suc k) = bytes_zeros n k

pub bytes_tab : (f : ℕ → ℕ) (n : ℕ) → ((k : ℕ) → f k < 256) → Bytes (tab f n)
unfolding tab
bytes_tab f zero h = bytes_nil
bytes_tab f (suc n) h = bytes_append (tab f n) (f n ∷ []) (bytes_tab f n h) (one_byte (f n) (h n))

pub bytes_over : (v l : List ℕ) → Bytes v → Bytes l → Bytes (over v l)
unfolding over
bytes_over v l h m = bytes_append v (drop (length v) l) h (bytes_drop (length v) l m)

pub bytes_splice : (at : ℕ) (v l : List ℕ) → Bytes v → Bytes l → Bytes (splice at v l)
unfolding splice
bytes_splice at v l h m =
    bytes_append (take at l) (v ++ drop (at + length v) l) (bytes_take at l m) (bytes_append v _ h (bytes_drop (at + length v) l m))

-- ---- numbers in bytes are in the range of their width

u16_below : (l : List ℕ) (at : ℕ) → Bytes l → u16_at l at < 65536
unfolding u16_at
u16_below l at b = omega (arith, b at, b (at + 1))

pub u32_below : (l : List ℕ) (at : ℕ) → Bytes l → u32_at l at < 4294967296
unfolding u32_at
u32_below l at b = omega (arith, b at, b (at + 1), b (at + 2), b (at + 3))

pub i16_fits : (l : List ℕ) (at : ℕ) → Bytes l → SFits w16 (i16_at l at)
unfolding i16_at
i16_fits l at b = to_z-Fits w16 _ (record { fits = u16_below l at b })

pub i32_fits : (l : List ℕ) (at : ℕ) → Bytes l → SFits w32 (i32_at l at)
unfolding i32_at
i32_fits l at b = to_z-Fits w32 _ (record { fits = u32_below l at b })

-- ---- a number in bytes, and put together again

pub length_u32_bytes : (n : ℕ) → length (u32_bytes n) ≡ 4
unfolding u32_bytes
length_u32_bytes n = refl

pub u32_bytes_lem : (n : ℕ) → n < 4294967296 → Bytes (u32_bytes n)
unfolding u32_bytes
u32_bytes_lem n h =
    let a : n % 256 < 256 = omega arith in
    let b : n / 256 % 256 < 256 = omega arith in
    let c : n / 65536 % 256 < 256 = omega arith in
    let d : n / 16777216 < 256 = omega arith in
    bytes_cons (n % 256) (n / 256 % 256 ∷ n / 65536 % 256 ∷ n / 16777216 ∷ []) a
    (bytes_cons (n / 256 % 256) (n / 65536 % 256 ∷ n / 16777216 ∷ []) b (bytes_cons (n / 65536 % 256) (n / 16777216 ∷ []) c (one_byte (n / 16777216) d)))

pub two_again : (n : ℕ) → n % 256 + 256 * (n / 256) ≡ n
two_again n = omega arith

pub three_again : (n : ℕ) → n % 256 + 256 * (n / 256 % 256) + 65536 * (n / 65536) ≡ n
three_again n = let q : n / 65536 ≡ n / 256 / 256 = omega arith in rw q (omega arith)

pub four_again : (n : ℕ) → n % 256 + 256 * (n / 256 % 256) + 65536 * (n / 65536 % 256) + 16777216 * (n / 16777216) ≡ n
four_again n =
    let q : n / 65536 ≡ n / 256 / 256 = omega arith in
    let r : n / 16777216 ≡ n / 256 / 256 / 256 = omega arith in
    rw (q, r) (omega arith)

-- ---- the number of four bytes

module _ (a b c d : ℕ) (ha : a ≤ 255) (hb : b ≤ 255) (hc : c ≤ 255) (hd : d ≤ 255) where
  pub four_bytes : u32_bytes (a + 256 * b + 65536 * c + 16777216 * d) ≡ a ∷ b ∷ c ∷ d ∷ []
  unfolding u32_bytes
  four_bytes =
      let n : ℕ = a + 256 * b + 65536 * c + 16777216 * d in
      let q₁ : n / 256 ≡ b + 256 * c + 65536 * d = omega arith in
      let q₂ : n / 65536 ≡ c + 256 * d = omega arith in
      let e₀ : n % 256 ≡ a = omega arith in
      let e₁ : n / 256 % 256 ≡ b = ap (λ (m : ℕ). m % 256) q₁ ∙ omega arith in
      let e₂ : n / 65536 % 256 ≡ c = ap (λ (m : ℕ). m % 256) q₂ ∙ omega arith in
      let e₃ : n / 16777216 ≡ d = omega arith in
      λ i. e₀ i ∷ e₁ i ∷ e₂ i ∷ e₃ i ∷ []

  -- the first three
  pub low_three : (a + 256 * b + 65536 * c + 16777216 * d) % 16777216 ≡ a + 256 * b + 65536 * c
  low_three = omega arith

-- ---- zeros

-- one more over the front
pub over_zeros_suc : (l : List ℕ) (i : ℕ) → i < length l → set (over (replicate i 0) l) i 0 ≡ over (replicate (i + 1) 0) l
unfolding over
over_zeros_suc l i h = rw (length-replicate {A = ℕ} i 0, length-replicate {A = ℕ} (i + 1) 0) (fill_more i 0 l h)

-- ---- reading an i32

pub value_or : Option ℤ → ℤ → ℤ
value_or (Some a) z = a
value_or None z = z

-- within the bytes, what is read is the value
pub read_within : (s : List ℕ) (i : ℕ) (r : Option ℤ) (z : ℤ) → r ≡ read_at s i → i + 4 ≤ length s → value_or r z ≡ i32_at s i
unfolding read_at value_or
read_within s i r z e h = ap (λ (q : Option ℤ). value_or q z) (e ∙ cond_true _ _ _ (le-leb (i + 4) (length s) h))

pub value_is : (a z : ℤ) → value_or (Some a) z ≡ a
unfolding value_or
value_is a z = refl

pub missing_is : (z : ℤ) → value_or None z ≡ z
unfolding value_or
missing_is z = refl

-- a value that was read, as a signed local holds it
pub read_value : (s : List ℕ) (i : ℕ) {r : Option ℤ} {z : ℤ} → r ≡ read_at s i → r ≡ Some z → SFits w32 z → read_at s i ≡ Some (to_z w32 (of_z w32 z))
read_value s i e g f = sym e ∙ g ∙ ap Some (sym (back w32 f))
