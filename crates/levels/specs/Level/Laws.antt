-- The law by which a search over 1 to 255 finds a level: k is at most v, as floats, exactly where k is at most v's level. It holds of any v.
use Rattle.std.specs.Prelude.{◌≡◌, refl, Bool, true, false, ℕ, ◌*◌, ◌/◌, ◌≤◌, ◌<◌, min, ℤ, pos, T, leb, Float}
use Rattle.std.proofs.Common.{sym, ◌∙◌, le-div_iff_mul-le, mul-one, le_trans, arith, leb-true, leb-false, leb→le, le→leb, lit≤}
use Rattle.std.proofs.Math.Nat.{le-min, min-le_right}
use Rattle.std.specs.Float.{nan, inf, fin, binary64}
use Rattle.std.specs.Float.Ieee.{up, down, of_int, le}
use Rattle.std.specs.Float.Ieee.Fits.{down_pos}
use Rattle.std.specs.Float.Ieee.Exact.{HasValue}
use Rattle.std.specs.Float.Ieee.Back.{round_whole}
use Rattle.std.specs.Float.Ieee.Order.{le_of_values}
use Rattle.std.specs.Float.Ieee.Positive.{positive, above, positive_of_value, above_of_le, values_of_le}
use Rattle.levels.specs.Level.{level_of}

-- ---- k as a float

-- a whole k up to 255 is a float of value k
exact : (k : ℕ) → k ≤ 255 → HasValue (of_int binary64 (pos k)) false k 1
unfolding of_int
exact k h = round_whole binary64 false k (le_trans h (lit≤ tt))

positive_whole : (k : ℕ) → 0 < k → k ≤ 255 → T (positive (of_int binary64 (pos k)))
positive_whole k K h = positive_of_value (of_int binary64 (pos k)) k 1 (exact k h) K

-- ---- k against a finite value that is not negative

below_floor : (k m : ℕ) (e : ℤ) → 0 < k → k ≤ 255 → T (le (of_int binary64 (pos k)) (fin false m e)) → k ≤ m * up e / down e
below_floor k m e K h t =
    let x = of_int binary64 (pos k) in
    let p : T (positive x) = positive_whole k K h in
    (le-div_iff_mul-le (down_pos e)).1
    (rw mul-one at
    (values_of_le x (fin false m e) k 1 (m * up e) (down e) p (above_of_le x (fin false m e) p t) (exact k h) (refl, refl) t))

floor_below : (k m : ℕ) (e : ℤ) → k ≤ 255 → k ≤ m * up e / down e → T (le (of_int binary64 (pos k)) (fin false m e))
floor_below k m e h l =
    le_of_values (of_int binary64 (pos k)) (fin false m e) k 1 (m * up e) (down e) (lit≤ tt) (down_pos e) (exact k h) (refl, refl)
    (rw mul-one ((le-div_iff_mul-le (down_pos e)).0 l))

-- ---- k against infinity

under_infinity : (x : Float) (a b : ℕ) → HasValue x false a b → T (le x (inf false))
unfolding le
under_infinity nan a b p = absurd p
under_infinity (inf s) a b p = absurd p
under_infinity (fin s m e) a b p = tt

-- ---- the law

same : (a b : Bool) → (T a → T b) → (T b → T a) → a ≡ b
same true true f g = refl
same true false f g = absurd (f tt)
same false true f g = absurd (g tt)
same false false f g = refl

-- k is not at most what is not above 0
neither : (v : Float) (k : ℕ) → 0 < k → k ≤ 255 → (T (above v) → ⊥) → le (of_int binary64 (pos k)) v ≡ leb k 0
neither v k K h f =
    same (le (of_int binary64 (pos k)) v) (leb k 0) (λ t. absurd (f (above_of_le (of_int binary64 (pos k)) v (positive_whole k K h) t)))
    (λ t. let l : k ≤ 0 = leb→le k 0 t in let z : ⊥ = omega arith in absurd z)

pub reaches : (v : Float) (k : ℕ) → 0 < k → k ≤ 255 → le (of_int binary64 (pos k)) v ≡ leb k (level_of v)
unfolding level_of
reaches nan k K h = neither nan k K h (λ t. t)
reaches (inf true) k K h = neither (inf true) k K h (λ t. t)
reaches (inf false) k K h =
    same (le (of_int binary64 (pos k)) (inf false)) (leb k 255) (λ t. le→leb k 255 h)
    (λ t. under_infinity (of_int binary64 (pos k)) k 1 (exact k h))
reaches (fin true m e) k K h = neither (fin true m e) k K h (λ t. t)
reaches (fin false m e) k K h =
    let a = m * up e / down e in
    same (le (of_int binary64 (pos k)) (fin false m e)) (leb k (min 255 a))
    (λ t. le→leb k (min 255 a) (le-min h (below_floor k m e K h t)))
    (λ t. floor_below k m e h (le_trans (leb→le k (min 255 a) t) (min-le_right 255 a)))

-- ---- the law, as a comparison's two answers

pub level_from : (v : Float) (k : ℕ) → 0 < k → k ≤ 255 → le (of_int binary64 (pos k)) v ≡ true → k ≤ level_of v
level_from v k K h t = leb-true k (level_of v) (sym (reaches v k K h) ∙ t)

pub level_below : (v : Float) (k : ℕ) → 0 < k → k ≤ 255 → le (of_int binary64 (pos k)) v ≡ false → level_of v < k
level_below v k K h t = leb-false k (level_of v) (sym (reaches v k K h) ∙ t)

-- ---- a level is a byte

pub level_most : (v : Float) → level_of v ≤ 255
unfolding level_of
level_most nan = omega arith
level_most (inf true) = omega arith
level_most (inf false) = omega arith
level_most (fin true m e) = omega arith
level_most (fin false m e) = omega arith
