-- Signed machine integers: the range of a width, and what a signed local reads back. A signed local is kept as its bits, so that what code
-- computes is `to_z w (of_z w z)`; `back`, `read` and `fits_by` turn that into z where z fits.
use Rattle.std.specs.Prelude.{◌≡◌, ℕ, suc, ◌-◌, ◌*◌, ◌/◌, ◌^◌, ◌<◌, ◌≤◌, Bool, true, false, T, ℤ, pos, negsuc, ◌+ℤ◌, ◌-ℤ◌, ◌*ℤ◌, neg_ℤ, FitsSigned, ◌≢◌, int_div, int_lt, nat_le, unsigned_abs, refl}
use Rattle.std.proofs.Common.{sym, ap, ◌∙◌, subst, div-le_self, lt_of_le_of_lt, lt_of_lt_of_le, arith, le-ltb, leb→le, pow_mono}
use Rattle.std.specs.Int.Signed.{mag}
use mir.Facts.{sfits_widen, to_z-of_z}
use Rattle.std.specs.Int.{Width, w32}
use mir.Val.{hbits, bits, sel, to_z, of_z}
use mir.ValLaws.{half_full, of_z_fits}
use Rattle.arith.specs.Integers.{up, dn, eq_z, eqb_z, eq_eqb_z, ne_eqb_z, sum_z, dif_z, abs_is, abs_mul_le, up_neg, dn_neg, lt_z_true, lt_z_false}

-- ---- the range of a width

pub sfits→ : (w : Width) (a : ℤ) → FitsSigned w a → (up a < 2 ^ hbits w) × (dn a ≤ 2 ^ hbits w)
sfits→ w (pos n) f = let h : n < 2 ^ hbits w = f.sfits in (h, omega arith)
sfits→ w (negsuc n) f = let h : n < 2 ^ hbits w = f.sfits in (omega arith, omega arith)

→sfits : (w : Width) (a : ℤ) → up a < 2 ^ hbits w → dn a ≤ 2 ^ hbits w → FitsSigned w a
→sfits w (pos n) h k = record { sfits = h }
→sfits w (negsuc n) h k = record { sfits = k }

-- the same, where each part may assume that the other is 0
pub bounds_fit : (w : Width) (a : ℤ) → (up a ≡ 0 → dn a ≤ 2 ^ hbits w) → (dn a ≡ 0 → up a < 2 ^ hbits w) → FitsSigned w a
bounds_fit w (pos n) f g = record { sfits = g refl }
bounds_fit w (negsuc n) f g = record { sfits = f refl }

pub abs_sfits : (w : Width) (a : ℤ) → unsigned_abs a < 2 ^ hbits w → FitsSigned w a
abs_sfits w a h = →sfits w a (omega (arith, abs_is a)) (omega (arith, abs_is a))

-- ---- reading back

-- mir.Facts.to_z-of_z, with its width given: a fact that is made on the spot does not tell it
pub back : (w : Width) {z : ℤ} → FitsSigned w z → to_z w (of_z w z) ≡ z
back w f = to_z-of_z f

-- what a call that answers z has left in a signed local
pub answered : (w : Width) {r z : ℤ} → mag r < 2 ^ hbits w → r ≡ z → to_z w (of_z w r) ≡ z
answered w h e = back w (record { sfits = h }) ∙ e

-- the value of a signed local that holds the bits of y, where y is z and z fits
pub read : (w : Width) {y z : ℤ} → y ≡ z → FitsSigned w z → to_z w (of_z w y) ≡ z
read w e f = ap (λ (v : ℤ). to_z w (of_z w v)) e ∙ back w f

-- a need of y from the fact of z
pub fits_by : {w : Width} {y z : ℤ} → y ≡ z → FitsSigned w z → FitsSigned w y
fits_by {w} e f = subst (λ (v : ℤ). FitsSigned w v) (sym e) f

-- a signed local that holds a natural
pub natural : {z : ℤ} → z ≡ pos (up z) → up z < 2147483648 → to_z w32 (of_z w32 z) ≡ pos (up z)
natural e h = read w32 e (record { sfits = h })

-- a signed local of width v, widened to w
pub widened : (v w : Width) {z : ℤ} → T (nat_le (hbits v) (hbits w)) → FitsSigned v z → to_z w (of_z w (to_z v (of_z v z))) ≡ z
widened v w t f = read w (back v f) (sfits_widen t f)

-- and that it can be
pub widens : {v w : Width} {z : ℤ} → T (nat_le (hbits v) (hbits w)) → FitsSigned v z → FitsSigned w (to_z v (of_z v z))
widens {v} t f = fits_by (back v f) (sfits_widen t f)

-- equal bits, equal numbers
bits_inj : (w : Width) {a b : ℤ} → FitsSigned w a → FitsSigned w b → of_z w a ≡ of_z w b → a ≡ b
bits_inj w f g e = sym (back w f) ∙ ap (to_z w) e ∙ back w g

-- the same for code that compares the bits
pub bits_same : (w : Width) {a b : ℤ} → FitsSigned w a → FitsSigned w b → of_z w a ≡ of_z w b → eqb_z a b ≡ true
bits_same w {a} {b} f g e = eq_eqb_z a b (bits_inj w f g e)

pub bits_differ : (w : Width) (a b : ℤ) → (of_z w a ≢ of_z w b) → eqb_z a b ≡ false
bits_differ w a b h = ne_eqb_z a b (λ e. h (ap (of_z w) e))

-- the bits of a number, by its sign
bits_negative : (w : Width) (z : ℤ) → FitsSigned w z → int_lt z (pos 0) ≡ true → z +ℤ pos (2 ^ bits w) ≡ pos (of_z w z)
bits_negative w (pos n) f t = let z : ⊥ = omega (arith, lt_z_true (pos n) (pos 0) t) in absurd z
bits_negative w (negsuc n) f t =
    let h : n < 2 ^ bits w = half_full w f.sfits in
    eq_z (omega (arith, sum_z (negsuc n) (pos (2 ^ bits w))))

bits_plain : (w : Width) (z : ℤ) → int_lt z (pos 0) ≡ false → z ≡ pos (of_z w z)
bits_plain w (pos n) t = refl
bits_plain w (negsuc n) t = let z : ⊥ = omega (arith, lt_z_false (negsuc n) (pos 0) t) in absurd z

-- the same as code makes them of a signed local: as it is, or widened and 2^bits added
pub plain_bits : (v : Width) {z : ℤ} → FitsSigned v z → int_lt (to_z v (of_z v z)) (pos 0) ≡ false → to_z v (of_z v z) ≡ pos (of_z v z)
plain_bits v {z} f t = back v f ∙ bits_plain v z (rw (back v f) at t)

module _ (v w : Width) {z : ℤ} (m : T (nat_le (hbits v) (hbits w))) (n : T (nat_le (bits v) (hbits w))) (f : FitsSigned v z) (t : int_lt (to_z v (of_z v z)) (pos 0) ≡ true) where
  raised_is : to_z w (of_z w (to_z v (of_z v z))) +ℤ pos (2 ^ bits v) ≡ pos (of_z v z)
  raised_is = ap (λ (y : ℤ). y +ℤ pos (2 ^ bits v)) (widened v w m f) ∙ bits_negative v z f (rw (back v f) at t)

  bits_fit : FitsSigned w (pos (of_z v z))
  bits_fit = record { sfits = lt_of_lt_of_le (of_z_fits v z f).fits (pow_mono (leb→le (bits v) (hbits w) n)) }

  pub raised_fits : FitsSigned w (to_z w (of_z w (to_z v (of_z v z))) +ℤ pos (2 ^ bits v))
  raised_fits = fits_by raised_is bits_fit

  pub raised_bits : to_z w (of_z w (to_z w (of_z w (to_z v (of_z v z))) +ℤ pos (2 ^ bits v))) ≡ pos (of_z v z)
  raised_bits = read w raised_is bits_fit

-- bits in the upper half, read as signed
pub to_z_high : (w : Width) (u : ℕ) → 2 ^ hbits w ≤ u → u < 2 ^ bits w → to_z w u ≡ pos u -ℤ pos (2 ^ bits w)
to_z_high w u h l =
    ap (λ (b : Bool). sel b (pos u) (negsuc (2 ^ bits w - suc u))) (le-ltb u (2 ^ hbits w) h)
    ∙ eq_z (omega (arith, dif_z (pos u) (pos (2 ^ bits w))))

-- ---- products

-- of two signed locals
pub product_is : (w : Width) {a b : ℤ} → FitsSigned w a → FitsSigned w b → to_z w (of_z w a) *ℤ to_z w (of_z w b) ≡ a *ℤ b
product_is w f g = λ i. back w f i *ℤ back w g i

-- in the range of a width, where the factors are at most m and n from 0
pub product_fits : (w : Width) (a b : ℤ) (m n : ℕ) → unsigned_abs a ≤ m → unsigned_abs b ≤ n → m * n < 2 ^ hbits w → FitsSigned w (a *ℤ b)
product_fits w a b m n h k l = abs_sfits w (a *ℤ b) (lt_of_le_of_lt (abs_mul_le a b m n h k) l)

-- ---- the range of a quotient by a natural

pub quot_fits : (w : Width) (v : ℤ) (n : ℕ) → FitsSigned w v → FitsSigned w (int_div v (pos n))
quot_fits w (pos a) n f = let h : a < 2 ^ hbits w = f.sfits in record { sfits = omega (arith, div-le_self a n) }
quot_fits w (negsuc a) n f =
    let h : a < 2 ^ hbits w = f.sfits in
    let m : ℕ = suc a in
    →sfits w (neg_ℤ (pos (m / n))) (omega (arith, up_neg (pos (m / n)))) (omega (arith, dn_neg (pos (m / n)), div-le_self m n))
