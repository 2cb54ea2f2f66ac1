-- What the fast row's condition gives: reciprocals that are ready, and a shift that truncates T × v / (256 × pel).
use Rattle.std.specs.Prelude.{◌≡◌, Bool, true, false, Option, Some, is_some, ◌&&◌, ℕ, ◌*◌, ◌^◌, ◌≤◌, leb, ℤ, pos, ◌*ℤ◌}
use Rattle.std.proofs.Math.Path.{refl, sym, ap}
use Rattle.std.proofs.Common.{◌∙◌, subst, pow-add, arith, to_z, of_z}
use borrow.Author.Tests.{leb-true}
use Rattle.std.proofs.Math.IntN.{nat_abs}
use Rattle.std.specs.Int.Signed.{quot_z}
use Rattle.std.specs.Int.{w32}
use Rattle.arith.specs.Booleans.{and_left, and_right, and_not_left, and_not_right, by_test}
use Rattle.arith.specs.Integers.{up}
use Rattle.record.specs.declared.shape.FieldShape.{FieldShape}
use Rattle.record.specs.Shape.{step_x_of, step_y_of}
use Rattle.record.specs.Shape.Laws.{Accepted, pel_read}
use Rattle.scatter.specs.declared.geometry.Scatter.{Scatter}
use Rattle.scatter.specs.Block.{t_of}
use Rattle.fast.specs.declared.condition.Fast.{Fast}
use Rattle.fast.specs.declared.divide.FloorDiv.{FloorDiv}
use Rattle.fast.specs.Power.{exponent_of, is_power, power_of}
use Rattle.fast.specs.Power.Laws.{exponent_below, power_is, power_some, power_value}
use Rattle.fast.specs.Reciprocal.{widest, floor_div_of, DivReady}
use Rattle.fast.specs.Reciprocal.Laws.{div_ready}
use Rattle.fast.specs.Condition.{fast_row, fast_of, Quick}

module _ (s : FieldShape) where
  abbrev p : Bool
  p = is_power (up s.pel)

  abbrev x : Bool
  x = leb (step_x_of s) widest

  abbrev y : Bool
  y = leb (step_y_of s) widest

  module _ (e : fast_row s ≡ true) where
    pub taken_power : is_power (up s.pel) ≡ true
    unfolding fast_row
    taken_power = and_left p x (and_left (p && x) y e)

    pub taken_x : step_x_of s ≤ widest
    unfolding fast_row
    taken_x = leb-true (step_x_of s) widest (and_right p x (and_left (p && x) y e))

    pub taken_y : step_y_of s ≤ widest
    unfolding fast_row
    taken_y = leb-true (step_y_of s) widest (and_right (p && x) y e)

  -- ---- the tests, one after the other

  pub not_power : is_power (up s.pel) ≡ false → false ≡ fast_row s
  unfolding fast_row
  not_power e = by_test (λ t. t && x && y) e

  pub not_x : leb (step_x_of s) widest ≡ false → false ≡ fast_row s
  unfolding fast_row
  not_x e = sym (and_not_left (p && x) y (and_not_right p x e))

  pub all_but_y : is_power (up s.pel) ≡ true → leb (step_x_of s) widest ≡ true → leb (step_y_of s) widest ≡ fast_row s
  unfolding fast_row
  all_but_y a b = by_test (λ t. t && y) b ∙ by_test (λ t. t && x && y) a

-- ---- the shift

-- the exponent that code finds of the pel it reads
pub exponent_is : (s : FieldShape) → Accepted s → (r : ℕ) → r ≡ exponent_of (nat_abs (to_z w32 (of_z w32 s.pel))) → r ≡ exponent_of (up s.pel)
exponent_is s a r e = e ∙ ap (λ (z : ℤ). exponent_of (nat_abs z)) (pel_read s a)

-- whether it finds one, and which
module _ (s : FieldShape) (a : Accepted s) (o : Option ℕ) (e : o ≡ power_of (nat_abs (to_z w32 (of_z w32 s.pel)))) where
  pub power_found : is_power (up s.pel) ≡ is_some o
  power_found = sym (ap is_some (e ∙ ap (λ (z : ℤ). power_of (nat_abs z)) (pel_read s a)) ∙ power_some (up s.pel))

  pub exponent_found : (k : ℕ) → o ≡ Some k → k ≡ exponent_of (up s.pel)
  exponent_found k f = exponent_is s a k (power_value (nat_abs (to_z w32 (of_z w32 s.pel))) k (sym e ∙ f))

pub shift_most : (s : FieldShape) → fast_row s ≡ true → (fast_of s).shift ≤ 14
unfolding fast_of
shift_most s e = let h = exponent_below (up s.pel) (taken_power s e) in omega arith

-- T × v / (256 × pel) by the shift
pub shift_is : (s : FieldShape) (T v : ℤ) → Accepted s → fast_row s ≡ true → quot_z (T *ℤ v) (pos (2 ^ (fast_of s).shift)) ≡ t_of s T v
unfolding fast_of t_of
shift_is s T v a e =
    ap (λ (n : ℕ). quot_z (T *ℤ v) (pos n)) (pow-add 2 8 (exponent_of (up s.pel)) ∙ ap (λ (n : ℕ). 256 * n) (power_is (up s.pel) (taken_power s e)))
    ∙ ap (λ (z : ℤ). quot_z (T *ℤ v) (pos 256 *ℤ z)) (sym a.pel_range.is)

-- ---- the steps

module _ (g : Scatter) (f : Fast) (q : Quick g f) where
  -- one of the two divisors
  ready_by : (d : Fast → FloorDiv) (step : ℕ) → d (fast_of g.shape) ≡ floor_div_of step → 1 ≤ step → step ≤ widest → DivReady (d f)
  ready_by d step e h k = subst DivReady (sym (ap d q.is ∙ e)) (div_ready step h k)

  pub ready_across : DivReady f.across
  unfolding fast_of step_x_of
  ready_across = ready_by (λ (h : Fast). h.across) (step_x_of g.shape) refl q.geometry.accepted.x.step_range.least (taken_x g.shape q.taken)

  pub ready_down : DivReady f.down
  unfolding fast_of step_y_of
  ready_down = ready_by (λ (h : Fast). h.down) (step_y_of g.shape) refl q.geometry.accepted.y.step_range.least (taken_y g.shape q.taken)

  pub across_divisor : nat_abs f.across.divisor ≡ step_x_of g.shape
  unfolding fast_of floor_div_of
  across_divisor = ap (λ (h : Fast). nat_abs h.across.divisor) q.is

  pub down_divisor : nat_abs f.down.divisor ≡ step_y_of g.shape
  unfolding fast_of floor_div_of
  down_divisor = ap (λ (h : Fast). nat_abs h.down.divisor) q.is
