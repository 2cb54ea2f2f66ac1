-- Arithmetic on ℤ through omega, which reads ℕ alone: an integer z is up z - dn z, its positive less its negative part, of which one is 0.
-- Each law turns an operation or an order on ℤ into one of naturals; `eq_z` and `le_z!` come back.
use Rattle.std.specs.Prelude.{◌≡◌, ℕ, zero, suc, ◌+◌, ◌-◌, ◌*◌, ◌/◌, ◌<◌, ◌≤◌, Bool, true, false, not, ◌&&◌, T, ◌⊎◌, ℤ, pos, negsuc, ◌+ℤ◌, ◌-ℤ◌, ◌*ℤ◌, neg_ℤ, ◌≤ℤ◌, ◌<ℤ◌, ◌==◌, ◌≢◌, int_div, int_le, int_lt, nat_lt, unsigned_abs, refl}
use Rattle.std.proofs.Common.{sym, ap, subst, inl, inr, ⊎_elim, true≢false, mul-le-mul, lt_of_le_of_lt, arith, leb→le, ltb→lt, le→leb, leb-false, ltb-true, ltb-false, eq-eqb, ne_eqb}
use Rattle.std.proofs.Math.IntN.{sub_ℕ}
use Rattle.std.specs.Int.Signed.{le_z_yes, lt_z_no}
use Rattle.arith.specs.Booleans.{and_left, and_right, is_true, is_false, cond_elim}

-- the positive part: the number itself where it is at least 0, else 0
abbrev pub up : ℤ → ℕ
up (pos n) = n
up (negsuc n) = 0

-- the negative part: how far below 0
abbrev pub dn : ℤ → ℕ
dn (pos n) = 0
dn (negsuc n) = suc n

-- whether two are equal
abbrev pub eqb_z : ℤ → ℤ → Bool
eqb_z (pos a) (pos b) = a == b
eqb_z (pos a) (negsuc b) = false
eqb_z (negsuc a) (pos b) = false
eqb_z (negsuc a) (negsuc b) = a == b

-- whether z is from lo to hi
abbrev pub in_range : ℤ → ℤ → ℤ → Bool
in_range lo hi z = int_le lo z && int_le z hi

-- ---- the two parts

pub one_zero : (a : ℤ) → (up a ≡ 0) ⊎ (dn a ≡ 0)
one_zero (pos n) = inr refl
one_zero (negsuc n) = inl refl

pub abs_is : (a : ℤ) → unsigned_abs a ≡ up a + dn a
abs_is (pos n) = omega arith
abs_is (negsuc n) = omega arith

-- a number that is not negative is a natural
pub is_natural : (a : ℤ) → dn a ≤ up a → a ≡ pos (up a)
is_natural (pos n) h = refl
is_natural (negsuc n) h = let z : ⊥ = omega arith in absurd z

-- ---- operations

sub_parts : (a b : ℕ) → up (sub_ℕ a b) + b ≡ dn (sub_ℕ a b) + a
sub_parts a b =
    cond_elim (λ (z : ℤ). up z + b ≡ dn z + a) (nat_lt a b) (negsuc (b - suc a)) (pos (a - b))
    (λ e. let h : a < b = ltb-true a b e in omega arith)
    (λ e. let h : b ≤ a = ltb-false a b e in omega arith)

pub sum_z : (a b : ℤ) → up (a +ℤ b) + (dn a + dn b) ≡ dn (a +ℤ b) + (up a + up b)
sum_z (pos a) (pos b) = omega arith
sum_z (pos a) (negsuc b) = omega (arith, sub_parts a (suc b))
sum_z (negsuc a) (pos b) = omega (arith, sub_parts b (suc a))
sum_z (negsuc a) (negsuc b) = omega arith

pub up_neg : (a : ℤ) → up (neg_ℤ a) ≡ dn a
up_neg (pos zero) = refl
up_neg (pos (suc n)) = refl
up_neg (negsuc n) = refl

pub dn_neg : (a : ℤ) → dn (neg_ℤ a) ≡ up a
dn_neg (pos zero) = refl
dn_neg (pos (suc n)) = refl
dn_neg (negsuc n) = refl

pub dif_z : (a b : ℤ) → up (a -ℤ b) + (dn a + up b) ≡ dn (a -ℤ b) + (up a + dn b)
dif_z a b = omega (arith, sum_z a (neg_ℤ b), up_neg b, dn_neg b)

pub prod_z : (a b : ℤ) → up (a *ℤ b) + (up a * dn b + dn a * up b) ≡ dn (a *ℤ b) + (up a * up b + dn a * dn b)
prod_z (pos a) (pos b) = omega arith
prod_z (pos a) (negsuc b) = omega (arith, up_neg (pos (a * suc b)), dn_neg (pos (a * suc b)))
prod_z (negsuc a) (pos b) = omega (arith, up_neg (pos (suc a * b)), dn_neg (pos (suc a * b)))
prod_z (negsuc a) (negsuc b) = omega arith

-- ---- back from naturals

pub eq_z : {a b : ℤ} → up a + dn b ≡ up b + dn a → a ≡ b
eq_z {a = pos a} {b = pos b} h = let e : a ≡ b = omega arith in ap pos e
eq_z {a = pos a} {b = negsuc b} h = let e : ⊥ = omega arith in absurd e
eq_z {a = negsuc a} {b = pos b} h = let e : ⊥ = omega arith in absurd e
eq_z {a = negsuc a} {b = negsuc b} h = let e : a ≡ b = omega arith in ap negsuc e

-- a difference, added again
pub dif_sum : (a b c : ℤ) → a -ℤ b ≡ c → a ≡ b +ℤ c
dif_sum a b c e = eq_z (omega (arith, dif_z a b, sum_z b c, ap up e, ap dn e))

pub le_z! : {a b : ℤ} → up a + dn b ≤ up b + dn a → a ≤ℤ b
le_z! {a = pos a} {b = pos b} h = let e : a ≤ b = omega arith in le_z_yes (le→leb a b e)
le_z! {a = pos a} {b = negsuc b} h = let e : ⊥ = omega arith in absurd e
le_z! {a = negsuc a} {b = pos b} h = le_z_yes tt
le_z! {a = negsuc a} {b = negsuc b} h = let e : b ≤ a = omega arith in le_z_yes (le→leb b a e)

-- ---- orders

le_Z : (a b : ℤ) → a ≤ℤ b → up a + dn b ≤ up b + dn a
le_Z (pos a) (pos b) h = let e : a ≤ b = leb→le a b h.le in omega arith
le_Z (pos a) (negsuc b) h = absurd h.le
le_Z (negsuc a) (pos b) h = omega arith
le_Z (negsuc a) (negsuc b) h = let e : b ≤ a = leb→le b a h.le in omega arith

lt_Z : (a b : ℤ) → a <ℤ b → up a + dn b < up b + dn a
lt_Z (pos a) (pos b) h = let e : a < b = ltb→lt a b h.lt in omega arith
lt_Z (pos a) (negsuc b) h = absurd h.lt
lt_Z (negsuc a) (pos b) h = omega arith
lt_Z (negsuc a) (negsuc b) h = let e : b < a = ltb→lt b a h.lt in omega arith

-- ---- tests, as code leaves them

pub lt_z_true : (a b : ℤ) → int_lt a b ≡ true → up a + dn b < up b + dn a
lt_z_true a b e = lt_Z a b (record { lt = subst T (sym e) tt })

pub lt_z_false : (a b : ℤ) → int_lt a b ≡ false → up b + dn a ≤ up a + dn b
lt_z_false a b e = le_Z b a (lt_z_no (subst (λ (t : Bool). T (not t)) (sym e) tt))

pub le_z_true : (a b : ℤ) → int_le a b ≡ true → up a + dn b ≤ up b + dn a
le_z_true a b e = le_Z a b (le_z_yes (subst T (sym e) tt))

-- a number in a range, both ends
pub range_true : (lo hi z : ℤ) → in_range lo hi z ≡ true → (up lo + dn z ≤ up z + dn lo) × (up z + dn hi ≤ up hi + dn z)
range_true lo hi z e = (le_z_true lo z (and_left (int_le lo z) (int_le z hi) e), le_z_true z hi (and_right (int_le lo z) (int_le z hi) e))

pub le_z_false : (a b : ℤ) → int_le a b ≡ false → up b + dn a < up a + dn b
le_z_false (pos a) (pos b) e = let h : b < a = leb-false a b e in omega arith
le_z_false (pos a) (negsuc b) e = omega arith
le_z_false (negsuc a) (pos b) e = absurd (true≢false e)
le_z_false (negsuc a) (negsuc b) e = let h : a < b = leb-false b a e in omega arith

-- what is not below 0 is a natural
pub not_negative : (z : ℤ) → int_lt z (pos 0) ≡ false → z ≡ pos (up z)
not_negative z e = is_natural z (omega (arith, lt_z_false z (pos 0) e))

-- a test's value from the order
pub lt_z_is_true : (a b : ℤ) → up a + dn b < up b + dn a → int_lt a b ≡ true
lt_z_is_true a b h = is_true (int_lt a b) (λ e. let k = lt_z_false a b e in omega arith)

pub lt_z_is_false : (a b : ℤ) → up b + dn a ≤ up a + dn b → int_lt a b ≡ false
lt_z_is_false a b h = is_false (int_lt a b) (λ e. let k = lt_z_true a b e in omega arith)

pub le_z_is_true : (a b : ℤ) → up a + dn b ≤ up b + dn a → int_le a b ≡ true
le_z_is_true a b h = is_true (int_le a b) (λ e. let k = le_z_false a b e in omega arith)

pub eq_eqb_z : (a b : ℤ) → a ≡ b → eqb_z a b ≡ true
eq_eqb_z a b e = subst (λ (z : ℤ). eqb_z a z ≡ true) e (same a)
  where
    same : (a : ℤ) → eqb_z a a ≡ true
    same (pos n) = eq-eqb n n refl
    same (negsuc n) = eq-eqb n n refl

pub ne_eqb_z : (a b : ℤ) → (a ≢ b) → eqb_z a b ≡ false
ne_eqb_z (pos a) (pos b) h = ne_eqb a b (λ e. h (ap pos e))
ne_eqb_z (pos a) (negsuc b) h = refl
ne_eqb_z (negsuc a) (pos b) h = refl
ne_eqb_z (negsuc a) (negsuc b) h = ne_eqb a b (λ e. h (ap negsuc e))

-- ---- magnitudes

abs_neg : (a : ℤ) → unsigned_abs (neg_ℤ a) ≡ unsigned_abs a
abs_neg (pos zero) = refl
abs_neg (pos (suc n)) = refl
abs_neg (negsuc n) = refl

pub abs_mul : (a b : ℤ) → unsigned_abs (a *ℤ b) ≡ unsigned_abs a * unsigned_abs b
abs_mul (pos a) (pos b) = refl
abs_mul (pos a) (negsuc b) = abs_neg (pos (a * suc b))
abs_mul (negsuc a) (pos b) = abs_neg (pos (suc a * b))
abs_mul (negsuc a) (negsuc b) = refl

pub abs_quot : (a b : ℤ) → unsigned_abs (int_div a b) ≡ unsigned_abs a / unsigned_abs b
abs_quot (pos a) (pos b) = refl
abs_quot (pos a) (negsuc b) = abs_neg (pos (a / suc b))
abs_quot (negsuc a) (pos b) = abs_neg (pos (suc a / b))
abs_quot (negsuc a) (negsuc b) = refl

pub abs_mul_le : (a b : ℤ) (m n : ℕ) → unsigned_abs a ≤ m → unsigned_abs b ≤ n → unsigned_abs (a *ℤ b) ≤ m * n
abs_mul_le a b m n h k = subst (λ (x : ℕ). x ≤ m * n) (sym (abs_mul a b)) (mul-le-mul h k)

pub abs_sum : (a b : ℤ) → unsigned_abs (a +ℤ b) ≤ unsigned_abs a + unsigned_abs b
abs_sum a b =
    ⊎_elim (λ e. omega (arith, sum_z a b, abs_is a, abs_is b, abs_is (a +ℤ b)))
    (λ e. omega (arith, sum_z a b, abs_is a, abs_is b, abs_is (a +ℤ b)))
    (one_zero (a +ℤ b))

-- two orders as one of the magnitude
pub abs_le : (n : ℕ) (z : ℤ) → negsuc n ≤ℤ z → z ≤ℤ pos (suc n) → unsigned_abs z ≤ suc n
abs_le n z h k =
    ⊎_elim (λ e. omega (arith, le_Z (negsuc n) z h, abs_is z)) (λ e. omega (arith, le_Z z (pos (suc n)) k, abs_is z)) (one_zero z)

-- a product of two bounded naturals, the bound a computed test
pub mul_below : (a b m n k : ℕ) → a ≤ m → b ≤ n → T (nat_lt (m * n) k) → a * b < k
mul_below a b m n k h l t = lt_of_le_of_lt (mul-le-mul h l) (ltb→lt (m * n) k t)

-- ---- numbers of at least 1

pub positive : (d : ℤ) → pos 1 ≤ℤ d → d ≡ pos (unsigned_abs d)
positive (pos n) h = refl
positive (negsuc n) h = absurd h.le

pub abs_positive : (d : ℤ) → pos 1 ≤ℤ d → 0 < unsigned_abs d
abs_positive d h = omega (arith, le_Z (pos 1) d h, abs_is d)

-- ---- a ring law that lib.IntN lacks

pub *ℤ-distl : (a b c : ℤ) → a *ℤ (b +ℤ c) ≡ a *ℤ b +ℤ a *ℤ c
*ℤ-distl a b c =
    eq_z
    (omega (
      arith,
      prod_z a (b +ℤ c),
      sum_z (a *ℤ b) (a *ℤ c),
      prod_z a b,
      prod_z a c,
      ap (λ (n : ℕ). up a * n) (sum_z b c),
      ap (λ (n : ℕ). dn a * n) (sum_z b c),
    ))
