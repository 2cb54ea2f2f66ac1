-- `fast::scale::scale` meets its contract: a negative value is lifted by 2^shift - 1, any other by 0.
use mathlib.Core.Path.{◌≡◌, refl, ap, ◌∙◌}
use mathlib.Core.Bool.{Bool, true, false, cond}
use Prim.Native.Nat.{ℕ, ◌-◌, ◌*◌, ◌%◌, ◌^◌, ◌≤◌, ◌<◌}
use native.Mathlib.Nat.{lt_of_le_of_lt}
use native.Mathlib.Omega.{arith}
use lib.Pow.{pow_mono, pow_pos}
use lib.Dec.{lit<}
use lib.IntN.{ℤ, pos, ◌+ℤ◌, ◌-ℤ◌, +ℤ_idr}
use lib.Signed.{shr_z, quot_z, lt_z}
use mir.Syntax.{w32}
use mir.Val.{SFits, to_z, of_z}
use mir.ValLaws.{to_z_pos}
use Rattle.arith.specs.Integers.{eq_z, sum_z, dif_z, lt_z_true}
use Rattle.arith.specs.Signed.{back, read, fits_by, sfits→, bounds_fit, quot_fits}
use Rattle.fast.specs.Power.Laws.{one_shifted, shift_negative, shift_plain}
use Rattle.fast.proofs.scale.scale.Goals as goal

less : (m : ℕ) → 0 < m → pos m -ℤ pos 1 ≡ pos (m - 1)
less m h = eq_z (omega (arith, dif_z (pos m) (pos 1)))

small : (m : ℕ) → m ≤ 16384 → m - 1 < 2147483648
small m h = omega arith

moved_fits : (v : ℤ) (n : ℕ) → SFits w32 v → lt_z v (pos 0) ≡ true → n ≤ 16384 → SFits w32 (v +ℤ pos (n - 1))
moved_fits v n f t h =
    let p = sfits→ w32 v f in
    bounds_fit w32 _ (λ e. omega (arith, sum_z v (pos (n - 1)))) (λ e. omega (arith, sum_z v (pos (n - 1)), lt_z_true v (pos 0) t))

-- the lift, by the sign of the value
lifted : (v : ℤ) (n : ℕ) → SFits w32 v → 0 < n → n ≤ 16384 → (r : ℤ) → r ≡ cond (lt_z v (pos 0)) (pos (n - 1)) (pos 0)
    → SFits w32 (v +ℤ r) × (shr_z (v +ℤ r) n ≡ quot_z v (pos n))
lifted v n f p h r e = go (lt_z v (pos 0)) refl e
  where
    go : (t : Bool) → lt_z v (pos 0) ≡ t → r ≡ cond t (pos (n - 1)) (pos 0) → SFits w32 (v +ℤ r) × (shr_z (v +ℤ r) n ≡ quot_z v (pos n))
    go true t e = rw e (moved_fits v n f t h, shift_negative v n p t)
    go false t e = rw (e, +ℤ_idr v) (f, shift_plain v n t)

module _ (s : goal.Start) where
  abbrev M : ℕ
  M = 2 ^ s.args.shift

  M-pos : 0 < M
  M-pos = pow_pos s.args.shift

  M-most : M ≤ 16384
  M-most = pow_mono s.requires

  one_is : to_z w32 (1 * M % 4294967296) ≡ pos M
  one_is = ap (to_z w32) (one_shifted s.args.shift s.requires) ∙ to_z_pos w32 M (lt_of_le_of_lt M-most (lit< tt))

  round_is : to_z w32 (1 * M % 4294967296) -ℤ pos 1 ≡ pos (M - 1)
  round_is = (λ i. one_is i -ℤ pos 1) ∙ less M M-pos

  round_fits : SFits w32 (pos (M - 1))
  round_fits = record { sfits = small M M-most }

  module _ (r : ℤ) (f : SFits w32 r) (e : r ≡ cond (lt_z (to_z w32 (of_z w32 s.args.value)) (pos 0)) (to_z w32 (of_z w32 (to_z w32 (1 * M % 4294967296) -ℤ pos 1))) (pos 0)) where
    both : SFits w32 (s.args.value +ℤ r) × (shr_z (s.args.value +ℤ r) M ≡ quot_z s.args.value (pos M))
    both =
        lifted s.args.value M s.ranges.value M-pos M-most r
        (e ∙ (λ i. cond (lt_z (back w32 s.ranges.value i) (pos 0)) (read w32 round_is round_fits i) (pos 0)))

    sum_is : to_z w32 (of_z w32 s.args.value) +ℤ to_z w32 (of_z w32 r) ≡ s.args.value +ℤ r
    sum_is = λ i. back w32 s.ranges.value i +ℤ back w32 f i

pub overflow_sub-round : goal.overflow_sub-round
overflow_sub-round c = fits_by (round_is c) (round_fits c)

pub overflow_add-result : goal.overflow_add-result
overflow_add-result c =
    let s = c in
    let r = c.lift.result in
    let f : SFits w32 c.lift.result = record { sfits = c.lift.type_inv } in
    fits_by (sum_is s.before r f c.lift.ensures) (both s.before r f c.lift.ensures).0

pub returns : goal.returns
returns c =
    let s = c in
    let r = c.lift.result in
    let f : SFits w32 c.lift.result = record { sfits = c.lift.type_inv } in
    let h = both s.before r f c.lift.ensures in
    read w32 (ap (λ (z : ℤ). shr_z z (M s.before)) (read w32 (sum_is s.before r f c.lift.ensures) h.0) ∙ h.1) (quot_fits w32 s.args.value (M s.before) s.ranges.value)
