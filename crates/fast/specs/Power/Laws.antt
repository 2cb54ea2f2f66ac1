-- Laws of powers of two: a pel's exponent, and a shift down that truncates.
use Rattle.std.specs.Prelude.{◌≡◌, refl, Bool, true, false, cond, Some, None, is_some, List, [], ◌∷◌, ◌≢◌, ℕ, zero, suc, ◌-◌, ◌*◌, ◌/◌, ◌%◌, ◌^◌, ◌≤◌, ◌<◌, eqb, ℤ, pos, negsuc, neg_ℤ, ◌+ℤ◌, length, get_or}
use Rattle.std.proofs.Common.{sym, ap, ◌∙◌, true≢false, arith, pow_mono, eqb-true, eq-eqb, ne_eqb, ltb-true}
use Rattle.std.specs.Bool.{then_some}
use Rattle.std.proofs.lemmas.Option.{same_Some, none-some}
use Rattle.std.proofs.Math.Decide.{dec_le}
use borrow.Author.Tests.{lt-ltb, le-ltb}
use Rattle.std.proofs.Math.Nat.{div-eq_of_lt, div-eq-sub-div}
use Rattle.std.specs.Int.Signed.{quot_z, shr_z, lt_z}
use Rattle.arith.specs.Booleans.{by_test}
use Rattle.arith.specs.Integers.{eq_z, sum_z, lt_z_true}
use Rattle.arith.specs.Tabulate.Laws.{length_tab, get_d_tab}
use Rattle.fast.specs.Power.{first_at, powers, exponent_of, is_power, power_of}

-- ---- a power in code

-- 1 << k, of 32 bits
pub one_shifted : (k : ℕ) → k ≤ 14 → 1 * 2 ^ k % 4294967296 ≡ 2 ^ k
one_shifted k h = low (2 ^ k) (pow_mono h)
  where
    low : (m : ℕ) → m ≤ 2 ^ 14 → 1 * m % 4294967296 ≡ m
    low m l = omega arith

-- ---- the exponent

-- what stands at a place that was found
found : (l : List ℕ) (x : ℕ) → first_at l x < length l → get_or l (first_at l x) 0 ≡ x
unfolding first_at
found [] x h = let z : ⊥ = omega arith in absurd z
found (a ∷ l) x h = go (λ i. found l x i) (eqb a x) refl h
  where
    go : (first_at l x < length l → get_or l (first_at l x) 0 ≡ x) → (t : Bool) → eqb a x ≡ t
        → cond t 0 (suc (first_at l x)) < length (a ∷ l) → get_or (a ∷ l) (cond t 0 (suc (first_at l x))) 0 ≡ x
    go ih true e i = eqb-true a x e
    go ih false e i = ih (omega arith)

-- the place is k where x stands at k, or the list ends there, and at no place before
first_at_lem : (l : List ℕ) (x k : ℕ) → k ≤ length l → ((j : ℕ) → j < k → get_or l j 0 ≢ x) → (k < length l → get_or l k 0 ≡ x) → k ≡ first_at l x
unfolding first_at
first_at_lem [] x k h n e = omega arith
first_at_lem (a ∷ l) x zero h n e = by_test (λ t. cond t 0 (suc (first_at l x))) (eq-eqb a x (e (omega arith)))
first_at_lem (a ∷ l) x (suc k) h n e =
    ap suc (first_at_lem l x k (omega arith) (λ j i. n (suc j) (omega arith)) (λ i. e (omega arith)))
    ∙ by_test (λ t. cond t 0 (suc (first_at l x))) (ne_eqb a x (n 0 (omega arith)))

powers_length : length powers ≡ 7
unfolding powers
powers_length = length_tab (λ k. 2 ^ k) 7

powers_at : (k : ℕ) → k < 7 → get_or powers k 0 ≡ 2 ^ k
unfolding powers
powers_at k h = get_d_tab (λ k. 2 ^ k) 7 k 0 h

-- the exponent is k where 2^k is the pel, or k is 7, and no lower power is
pub exponent_first : (pel k : ℕ) → k ≤ 7 → ((j : ℕ) → j < k → 2 ^ j ≢ pel) → (k < 7 → 2 ^ k ≡ pel) → k ≡ exponent_of pel
unfolding exponent_of
exponent_first pel k h n e =
    first_at_lem powers pel k (rw powers_length h) (λ j i q. n j i (sym (powers_at j (omega arith)) ∙ q))
    (λ i. let l : k < 7 = rw powers_length at i in powers_at k l ∙ e l)

-- the same of the code's answer
pub power_first : (pel k : ℕ) → k < 7 → ((j : ℕ) → j < k → 2 ^ j ≢ pel) → 2 ^ k ≡ pel → Some k ≡ power_of pel
unfolding power_of is_power
power_first pel k h n e =
    let q = exponent_first pel k (omega arith) n (λ l. e) in
    ap Some q ∙ sym (ap (λ (t : Bool). then_some t (exponent_of pel)) (lt-ltb (exponent_of pel) 7 (omega arith)))

pub power_none : (pel : ℕ) → ((j : ℕ) → j < 7 → 2 ^ j ≢ pel) → None ≡ power_of pel
unfolding power_of is_power
power_none pel n =
    let q = exponent_first pel 7 (omega arith) n (λ l. absurd (omega arith)) in
    sym (ap (λ (t : Bool). then_some t (exponent_of pel)) (le-ltb (exponent_of pel) 7 (omega arith)))

pub power_some : (pel : ℕ) → is_some (power_of pel) ≡ is_power pel
unfolding power_of
power_some pel = go (is_power pel)
  where
    go : (t : Bool) → is_some (then_some t (exponent_of pel)) ≡ t
    go true = refl
    go false = refl

pub power_value : (pel k : ℕ) → power_of pel ≡ Some k → k ≡ exponent_of pel
unfolding power_of
power_value pel k e = go (is_power pel) e
  where
    go : (t : Bool) → then_some t (exponent_of pel) ≡ Some k → k ≡ exponent_of pel
    go true q = sym (same_Some _ _ q)
    go false q = absurd (none-some k q)

pub exponent_below : (pel : ℕ) → is_power pel ≡ true → exponent_of pel < 7
unfolding is_power
exponent_below pel e = ltb-true (exponent_of pel) 7 e

pub power_is : (pel : ℕ) → is_power pel ≡ true → 2 ^ exponent_of pel ≡ pel
unfolding exponent_of
power_is pel e = let h = exponent_below pel e in sym (powers_at (exponent_of pel) h) ∙ found powers pel (rw powers_length h)

-- ---- the shift

-- a negative number moved up by m - 1 and shifted down by m is truncated
down : (a m : ℕ) → 0 < m → shr_z (negsuc a +ℤ pos (m - 1)) m ≡ quot_z (negsuc a) (pos m)
down a m h = go (dec_le m (suc a))
  where
    go : Dec (m ≤ suc a) → shr_z (negsuc a +ℤ pos (m - 1)) m ≡ neg_ℤ (pos (suc a / m))
    go (yes l) =
        let e : negsuc a +ℤ pos (m - 1) ≡ negsuc (suc a - m) = eq_z (omega (arith, sum_z (negsuc a) (pos (m - 1)))) in
        let q : suc a / m ≡ suc ((suc a - m) / m) = omega (arith, div-eq-sub-div {m = m} {n = suc a} h l) in
        ap (λ (z : ℤ). shr_z z m) e ∙ ap (λ (n : ℕ). neg_ℤ (pos n)) (sym q)
    go (no l) =
        let k : m - 1 - suc a < m = omega arith in
        let k2 : suc a < m = omega arith in
        let e : negsuc a +ℤ pos (m - 1) ≡ pos (m - 1 - suc a) = eq_z (omega (arith, sum_z (negsuc a) (pos (m - 1)))) in
        ap (λ (z : ℤ). shr_z z m) e ∙ ap pos (div-eq_of_lt k) ∙ ap (λ (n : ℕ). neg_ℤ (pos n)) (sym (div-eq_of_lt k2))

pub shift_negative : (v : ℤ) (m : ℕ) → 0 < m → lt_z v (pos 0) ≡ true → shr_z (v +ℤ pos (m - 1)) m ≡ quot_z v (pos m)
shift_negative (pos a) m h t = let z : ⊥ = omega (arith, lt_z_true (pos a) (pos 0) t) in absurd z
shift_negative (negsuc a) m h t = down a m h

pub shift_plain : (v : ℤ) (m : ℕ) → lt_z v (pos 0) ≡ false → shr_z v m ≡ quot_z v (pos m)
shift_plain (pos a) m t = refl
shift_plain (negsuc a) m t = absurd (true≢false t)
