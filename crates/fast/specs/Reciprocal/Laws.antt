-- The quotient by a reciprocal is exact (`ceil_div_lem`), and moving a value up by a multiple of the divisor turns a floor into a quotient of
-- naturals (`floor_shift`). Both hold of every divisor; the bounds on reciprocals are those of divisors to `widest`.
use Rattle.std.specs.Prelude.{◌≡◌, refl, ℕ, suc, ◌+◌, ◌-◌, ◌*◌, ◌/◌, ◌%◌, ◌^◌, ◌≤◌, ◌<◌, ℤ, negsuc, nat_abs, ◌+ℤ◌, ◌-ℤ◌}
use Rattle.std.proofs.Common.{sym, ap, ◌∙◌, ⊎_elim, div-add-mod', mod-lt, mul-le-mul_left, mul-le-mul_right, div-lt_iff_lt-mul, lt_of_mul-lt-mul_right, le-mul_of_pos_right, arith, lit≤}
use Rattle.std.proofs.Math.Nat.{div-add-mod, div-eq_of_lt-le, add-mul-div_right}
use Rattle.std.proofs.Math.IntN.{pos}
use Rattle.arith.specs.Integers.{up, dn, eq_z, sum_z, dif_z, one_zero, abs_is, is_natural, mul_below}
use Rattle.arith.specs.Floor.{floor_n}
use Rattle.scatter.specs.Block.{reach}
use Rattle.fast.specs.Reciprocal.{widest, ceil_div, ceil_of, bias_of, floor_div_of, raised_of, DivReady}

-- ---- a quotient rounded up

module _ (n d : ℕ) (k : 1 ≤ n) (h : 1 ≤ d) where
  ceil_low : n ≤ ceil_div n d * d
  ceil_low = let l = mod-lt (n - 1 + d) {m = d} h in omega (arith, div-add-mod' (n - 1 + d) d)

  ceil_high : ceil_div n d * d < n + d
  ceil_high = omega (arith, div-add-mod' (n - 1 + d) d)

-- ---- the reciprocal

recip_div : (d m n : ℕ) → 0 < d → 4294967296 ≤ m * d → m * d < 4294967296 + d → n + d < m → n * m / 4294967296 ≡ n / d
recip_div d m n h lo hi l =
    let q = n / d in
    let r = n % d in
    let e = m * d - 4294967296 in
    let lt : r < d = mod-lt n h in
    let e1 : (d * q + r) * m ≡ n * m = ap (λ (x : ℕ). x * m) (div-add-mod n d) in
    let e0 : m * d ≡ 4294967296 + e = omega arith in
    let e2 : q * (m * d) ≡ q * (4294967296 + e) = ap (λ (x : ℕ). q * x) e0 in
    let i1 : suc r * m ≤ d * m = mul-le-mul_right m lt in
    let i2 : suc q * e ≤ suc q * d = mul-le-mul_left (suc q) (omega arith) in
    div-eq_of_lt-le 4294967296 (below n m q r d e e1 e0 e2) (above n m q r d e e1 e0 e2 i1 i2 (div-add-mod n d) l)
  where
    below : (n m q r d e : ℕ) → (d * q + r) * m ≡ n * m → m * d ≡ 4294967296 + e → q * (m * d) ≡ q * (4294967296 + e)
        → q * 4294967296 ≤ n * m
    below n m q r d e a b c = omega arith

    above : (n m q r d e : ℕ) → (d * q + r) * m ≡ n * m → m * d ≡ 4294967296 + e → q * (m * d) ≡ q * (4294967296 + e)
        → suc r * m ≤ d * m → suc q * e ≤ suc q * d → d * q + r ≡ n → n + d < m → n * m < (q + 1) * 4294967296
    above n m q r d e a b c i j k l = omega arith

-- a product by the reciprocal, shifted down by 32, is the quotient of any n with n + d below the reciprocal
ceil_div_lem : (d n : ℕ) → 0 < d → n + d < ceil_of d → n * ceil_of d / 4294967296 ≡ n / d
unfolding ceil_of
ceil_div_lem d n h l = recip_div d (ceil_of d) n h (ceil_low 4294967296 d (lit≤ tt) h) (ceil_high 4294967296 d (lit≤ tt) h) l

-- the reciprocals of 1 to `widest` are at least 2^25, so that every n below 2^25 - `widest` is within
pub ceil_least : (d : ℕ) → 1 ≤ d → d ≤ widest → 33554431 < ceil_of d
unfolding ceil_of
ceil_least d h k = let a = ceil_low 4294967296 d (lit≤ tt) h in lt_of_mul-lt-mul_right d {m = 33554431} {n = ceil_of d} (omega arith)

-- and at most 2^32, that of 1
pub ceil_most : (d : ℕ) → 1 ≤ d → ceil_of d < 4294967297
unfolding ceil_of
ceil_most d h = let a = ceil_high 4294967296 d (lit≤ tt) h in lt_of_mul-lt-mul_right d {m = ceil_of d} {n = 4294967297} (omega arith)

-- ---- the offset

-- bias × d: from the reach to less than d above it
offset_least : (d : ℕ) → 1 ≤ d → reach ≤ bias_of d * d
unfolding bias_of
offset_least d h = ceil_low reach d (lit≤ tt) h

pub offset_most : (d : ℕ) → 1 ≤ d → d ≤ widest → bias_of d * d < reach + widest
unfolding bias_of
offset_most d h k = omega (arith, ceil_high reach d (lit≤ tt) h)

pub bias_most : (d : ℕ) → 1 ≤ d → d ≤ widest → bias_of d < reach + widest
bias_most d h k = omega (arith, offset_most d h k, le-mul_of_pos_right {m = d} (bias_of d) h)

-- the floor by a quotient of naturals: v is moved up by b times d, and the quotient down by b
floor_shift : (v : ℤ) (d b n : ℕ) → 0 < d → pos n ≡ v +ℤ pos (b * d) → pos (n / d) -ℤ pos b ≡ floor_n v d
floor_shift (pos a) d b n h e =
    let k : n ≡ a + b * d = omega (arith, ap up e) in
    let q : n / d ≡ a / d + b = ap (λ (x : ℕ). x / d) k ∙ add-mul-div_right a b h in
    eq_z (omega (arith, dif_z (pos (n / d)) (pos b)))
floor_shift (negsuc a) d b n h e =
    let k : n + suc a ≡ b * d = omega (arith, ap up e, ap dn e, sum_z (negsuc a) (pos (b * d))) in
    let q : n / d + suc (a / d) ≡ b = below a d b n h k in
    eq_z (omega (arith, dif_z (pos (n / d)) (pos b)))
  where
    fin : (n a d b t q r s : ℕ) → n + suc a ≡ b * d → b * d ≡ (t + suc q) * d → d * q + r ≡ a → s + suc r ≡ d → n ≡ t * d + s
    fin n a d b t q r s k f g h = omega arith

    quotient : (q d s n : ℕ) → n ≡ q * d + s → s < d → n / d ≡ q
    quotient q d s n e l = div-eq_of_lt-le d (omega arith) (omega arith)

    below : (a d b n : ℕ) → 0 < d → n + suc a ≡ b * d → n / d + suc (a / d) ≡ b
    below a d b n h k =
        let l : a / d < b = (div-lt_iff_lt-mul h).1 (omega arith) in
        let t = b - suc (a / d) in
        let bt : b ≡ t + suc (a / d) = omega arith in
        let f : b * d ≡ (t + suc (a / d)) * d = ap (λ (x : ℕ). x * d) bt in
        let m : a % d < d = mod-lt a h in
        let s = d - suc (a % d) in
        let z : n / d ≡ t = quotient t d s n (fin n a d b t (a / d) (a % d) s k f (div-add-mod a d) (omega arith)) (omega arith) in
        omega arith

-- ---- a value within the reach, moved up

-- a product by one less, and once more
pub one_less : (n m : ℕ) → 1 ≤ m → n * (m - 1) + n ≡ n * m
one_less n m h = let e : m - 1 + 1 ≡ m = omega arith in omega (arith, ap (λ (k : ℕ). n * k) e)

module _ (d : ℕ) (l : 1 ≤ d) (m : d ≤ widest) (v : ℤ) (h : nat_abs v ≤ reach) where
  -- it is not negative
  raised_dn : dn (v +ℤ pos (bias_of d * d)) ≡ 0
  raised_dn = ⊎_elim (λ e. omega (arith, sum_z v (pos (bias_of d * d)), abs_is v, offset_least d l)) (λ e. e) (one_zero (v +ℤ pos (bias_of d * d)))

  pub raised_is : v +ℤ pos (bias_of d * d) ≡ pos (raised_of d v)
  unfolding raised_of
  raised_is = is_natural (v +ℤ pos (bias_of d * d)) (omega (arith, raised_dn))

  pub raised_most : raised_of d v < 16777216
  unfolding raised_of
  raised_most = omega (arith, sum_z v (pos (bias_of d * d)), abs_is v, offset_most d l m, raised_dn)

  pub raised_product : raised_of d v * ceil_of d < 2 ^ 64
  raised_product = mul_below (raised_of d v) (ceil_of d) 16777216 4294967296 (2 ^ 64) (omega (arith, raised_most)) (omega (arith, ceil_most d l)) tt

  -- the product shifted down is its quotient, and so less the bias the floor
  pub raised_quotient : raised_of d v * ceil_of d / 4294967296 ≡ raised_of d v / d
  raised_quotient = ceil_div_lem d (raised_of d v) l (omega (arith, raised_most, ceil_least d l m))

  pub raised_floor : pos (raised_of d v / d) -ℤ pos (bias_of d) ≡ floor_n v d
  raised_floor = floor_shift v d (bias_of d) (raised_of d v) l (sym raised_is)

-- ---- what a ready divisor holds

pub div_ready : (d : ℕ) → 1 ≤ d → d ≤ widest → DivReady (floor_div_of d)
unfolding floor_div_of
div_ready d h k = record { least = h; most = k; is = refl }
