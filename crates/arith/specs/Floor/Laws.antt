-- Laws of the floor: what code that truncates and steps down gives, and z = n × floor + rest.
use Rattle.std.specs.Prelude.{◌≡◌, ℕ, zero, suc, ◌-◌, ◌*◌, ◌/◌, ◌%◌, ◌<◌, ◌≤◌, true, false, ℤ, pos, negsuc, ◌+ℤ◌, ◌-ℤ◌, ◌*ℤ◌, neg_ℤ, FitsSigned, ◌≢◌, int_div, int_lt, int_rem, unsigned_abs, refl}
use Rattle.std.proofs.Common.{sym, ap, ◌∙◌, true≢false, mod-lt, div-le_self, mod-eq_of_lt, arith, ltb-true}
use Rattle.std.proofs.lemmas.Bool.{false≢true}
use Rattle.std.proofs.Math.Nat.{div-add-mod, suc-mod, div-eq_of_lt-le, mod_self}
use Rattle.std.specs.Int.Signed.{mag_shr}
use Rattle.std.specs.Int.{Width}
use mir.ValLaws.{sfits_le}
use Rattle.arith.specs.Integers.{up, dn, eq_z, up_neg, dn_neg, sum_z, dif_z, prod_z}
use Rattle.arith.specs.Floor.{floor_n, mod_n}

-- ---- ranges

pub floor_fits : (w : Width) (v : ℤ) (n : ℕ) → FitsSigned w v → FitsSigned w (floor_n v n)
floor_fits w v n f = sfits_le (mag_shr v n) f

pub floor_abs : (v : ℤ) (n : ℕ) → unsigned_abs (floor_n v n) ≤ unsigned_abs v
floor_abs (pos a) n = div-le_self a n
floor_abs (negsuc a) n = omega (arith, div-le_self a n)

pub mod_below : (v : ℤ) (n : ℕ) → 0 < n → mod_n v n < n
mod_below (pos a) n h = mod-lt a h
mod_below (negsuc a) n h = omega arith

-- ---- truncate, and step down where the remainder is negative

-- where n divides suc a the quotient is one more than a's, else it is the same
suc_div_same : (a n : ℕ) → 0 < n → (suc a % n ≢ 0) → suc a / n ≡ a / n
suc_div_same a n h k =
    let ne : suc (a % n) ≡ n → ⊥ = λ e. k (suc-mod a n ∙ ap (λ (m : ℕ). m % n) e ∙ mod_self n) in
    let lt : a % n < n = mod-lt a h in
    div-eq_of_lt-le n (omega (arith, div-add-mod a n)) (omega (arith, div-add-mod a n))

suc_div_more : (a n : ℕ) → 0 < n → suc a % n ≡ 0 → suc a / n ≡ suc (a / n)
suc_div_more a n h k =
    let nl : suc (a % n) < n → ⊥ = λ l. zero_no (sym k ∙ suc-mod a n ∙ mod-eq_of_lt l) in
    let lt : a % n < n = mod-lt a h in
    div-eq_of_lt-le n (omega (arith, div-add-mod a n)) (omega (arith, div-add-mod a n))
  where
    zero_no : {m : ℕ} → 0 ≢ suc m
    zero_no e = omega arith

neg_lt : (m : ℕ) → int_lt (neg_ℤ (pos m)) (pos 0) ≡ true → m ≢ 0
neg_lt zero t e = absurd (false≢true t)
neg_lt (suc m) t e = omega arith

neg_ge : (m : ℕ) → int_lt (neg_ℤ (pos m)) (pos 0) ≡ false → m ≡ 0
neg_ge zero t = refl
neg_ge (suc m) t = absurd (true≢false t)

pub floor_down : (v : ℤ) (n : ℕ) → 0 < n → int_lt (int_rem v (pos n)) (pos 0) ≡ true → int_div v (pos n) -ℤ pos 1 ≡ floor_n v n
floor_down (pos a) n h t = let l : a % n < 0 = ltb-true _ _ t in let e : ⊥ = omega arith in absurd e
floor_down (negsuc a) n h t =
    eq_z
    (omega (
      arith,
      dif_z (neg_ℤ (pos (suc a / n))) (pos 1),
      up_neg (pos (suc a / n)),
      dn_neg (pos (suc a / n)),
      suc_div_same a n h (neg_lt (suc a % n) t),
    ))

pub floor_same : (v : ℤ) (n : ℕ) → 0 < n → int_lt (int_rem v (pos n)) (pos 0) ≡ false → int_div v (pos n) ≡ floor_n v n
floor_same (pos a) n h t = refl
floor_same (negsuc a) n h t = ap (λ (x : ℕ). neg_ℤ (pos x)) (suc_div_more a n h (neg_ge (suc a % n) t))

-- ---- the floor and the rest make the number

floor_mod : (v : ℤ) (n : ℕ) → 0 < n → v ≡ pos n *ℤ floor_n v n +ℤ pos (mod_n v n)
floor_mod (pos a) n h = ap pos (sym (div-add-mod a n))
floor_mod (negsuc a) n h =
    let lt : a % n < n = mod-lt a h in
    eq_z (omega (arith, sum_z (pos n *ℤ negsuc (a / n)) (pos (n - suc (a % n))), prod_z (pos n) (negsuc (a / n)), div-add-mod a n))

-- n × (floor + 1) - v, which is 1 to n
pub part_is : (v : ℤ) (n : ℕ) → 0 < n → pos n *ℤ (floor_n v n +ℤ pos 1) -ℤ v ≡ pos (n - mod_n v n)
part_is v n h =
    let lt : mod_n v n < n = mod_below v n h in
    eq_z
    (omega (
      arith,
      dif_z (pos n *ℤ (floor_n v n +ℤ pos 1)) v,
      prod_z (pos n) (floor_n v n +ℤ pos 1),
      ap (λ (x : ℕ). n * x) (sum_z (floor_n v n) (pos 1)),
      ap up (floor_mod v n h),
      ap dn (floor_mod v n h),
      sum_z (pos n *ℤ floor_n v n) (pos (mod_n v n)),
      prod_z (pos n) (floor_n v n),
    ))
