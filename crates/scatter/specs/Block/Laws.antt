-- Laws of a block's place: ranges of what is worked out on the way, and the parts of a block side.
use Rattle.std.specs.Prelude.{◌≡◌, ℕ, ◌+◌, ◌-◌, ◌*◌, ◌≤◌, ℤ, pos, negsuc, nat_abs, ◌+ℤ◌, ◌-ℤ◌, ◌*ℤ◌}
use Rattle.std.proofs.Common.{sym, ap, subst, lt_of_le_of_lt, le_trans, arith, lit<, SFits, to_z, of_z}
use Rattle.std.proofs.Math.Nat.{div-le_of_le-mul}
use Rattle.std.specs.Int.{w32}
use Rattle.arith.specs.Floor.{mod_n}
use Rattle.arith.specs.Floor.Laws.{part_is, floor_abs}
use Rattle.arith.specs.Integers.{up, dn, eq_z, sum_z, dif_z, abs_is, abs_sum, abs_mul, abs_mul_le, abs_quot}
use Rattle.arith.specs.Signed.{read, fits_by, abs_sfits, product_is, product_fits}
use Rattle.record.specs.declared.shape.FieldShape.{FieldShape}
use Rattle.record.specs.Shape.Laws.{Accepted}
use Rattle.scatter.specs.Block.{reach, t_of, q_of, r_of, l_of}
use Rattle.scatter.specs.Geometry.{Timed}
use Rattle.scatter.specs.Geometry.Laws.{time_most}

-- ---- ranges

-- time × v, for a time and a component
pub travel_fits : (T v : ℤ) → nat_abs T ≤ 65535 → nat_abs v ≤ 32768 → SFits w32 (T *ℤ v)
travel_fits T v h k = product_fits w32 T v 65535 32768 h k (lit< tt)

-- how far a component goes
pub t_most : (s : FieldShape) (T v : ℤ) → Accepted s → Timed T → nat_abs v ≤ 32768 → nat_abs (t_of s T v) ≤ reach
unfolding t_of
t_most s T v a t h =
    let d : ℤ = pos 256 *ℤ s.pel in
    let big : 256 ≤ nat_abs d = omega (arith, abs_mul (pos 256) s.pel, abs_is s.pel, a.pel_range.least) in
    let m : nat_abs (T *ℤ v) ≤ 65535 * 32768 = abs_mul_le T v 65535 32768 (time_most t) h in
    subst (λ (x : ℕ). x ≤ reach) (sym (abs_quot (T *ℤ v) d)) (div-le_of_le-mul (nat_abs d) (omega arith))

pub q_most : (step : ℕ) (t : ℤ) (m : ℕ) → nat_abs t ≤ m → nat_abs (q_of step t) ≤ m
unfolding q_of
q_most step t m h = omega (arith, floor_abs t step)

-- one more than a number far from the ends of i32
pub next_fits : (z : ℤ) → nat_abs z ≤ 16777216 → SFits w32 (z +ℤ pos 1)
next_fits z h = abs_sfits w32 (z +ℤ pos 1) (omega (arith, abs_sum z (pos 1)))

-- ---- the parts

-- r is from 1 to the step
r_is : (step : ℕ) (t : ℤ) → 1 ≤ step → r_of step t ≡ pos (step - mod_n t step)
unfolding r_of q_of
r_is step t h = part_is t step h

r_most : (step : ℕ) (t : ℤ) → 1 ≤ step → nat_abs (r_of step t) ≤ step
r_most step t h = subst (λ (z : ℤ). nat_abs z ≤ step) (sym (r_is step t h)) (omega arith)

-- l is at most 256 from 0, as block side and step are, whatever its sign
l_most : (block : ℤ) (step : ℕ) (t : ℤ) → block ≡ pos (up block) → up block ≤ 256 → 1 ≤ step → step ≤ 256 → nat_abs (l_of block step t) ≤ 256
unfolding l_of
l_most block step t e b h m =
    let r : ℕ = step - mod_n t step in
    subst (λ (z : ℤ). nat_abs (block -ℤ z) ≤ 256) (sym (r_is step t h)) (most (block -ℤ pos r) (dif_z block (pos r)) (omega arith) (omega (arith, ap dn e)))
  where
    most : (z : ℤ) → up z + (dn block + (step - mod_n t step)) ≡ dn z + (up block + 0) → (step - mod_n t step ≤ 256) → dn block ≡ 0 → nat_abs z ≤ 256
    most (pos n) d k f = omega arith
    most (negsuc n) d k f = omega arith

-- the first cell and both parts of a block at column or row `at` are far from the ends of i32
pub record PartsSmall (block : ℤ) (step at : ℕ) (t : ℤ) : Type 0 where
  pub cell_most : nat_abs (pos at +ℤ q_of step t) ≤ 16777216
  pub near_most : nat_abs (r_of step t) ≤ 256
  pub far_most : nat_abs (l_of block step t) ≤ 256

pub parts_small : {block : ℤ} {step at : ℕ} {t : ℤ} → block ≡ pos (up block) → up block ≤ 256 → 1 ≤ step → step ≤ 256 → at ≤ 1024 → nat_abs t ≤ reach
    → PartsSmall block step at t
parts_small {block} {step} {at} {t} e b h m k n =
    record {
      cell_most = omega (arith, abs_sum (pos at) (q_of step t), q_most step t reach n);
      near_most = le_trans (r_most step t h) m;
      far_most = l_most block step t e b h m;
    }

module _ {block : ℤ} {step at : ℕ} {t : ℤ} (p : PartsSmall block step at t) where
  pub cell_fits : SFits w32 (pos at +ℤ q_of step t)
  cell_fits = abs_sfits w32 _ (lt_of_le_of_lt p.cell_most (lit< tt))

  pub near_fits : SFits w32 (r_of step t)
  near_fits = abs_sfits w32 _ (lt_of_le_of_lt p.near_most (lit< tt))

  pub far_fits : SFits w32 (l_of block step t)
  far_fits = abs_sfits w32 _ (lt_of_le_of_lt p.far_most (lit< tt))

-- both parts make the block side
pub parts : (block : ℤ) (step : ℕ) (t : ℤ) → r_of step t +ℤ l_of block step t ≡ block
unfolding l_of
parts block step t = eq_z (omega (arith, sum_z (r_of step t) (block -ℤ r_of step t), dif_z block (r_of step t)))

-- a product of two parts of a block, as code makes it: in the range of i32, and read back
module _ {a b : ℤ} (f : SFits w32 a) (g : SFits w32 b) (h : nat_abs a ≤ 256) (k : nat_abs b ≤ 256) where
  part_fits : SFits w32 (a *ℤ b)
  part_fits = product_fits w32 a b 256 256 h k (lit< tt)

  pub product_small : SFits w32 (to_z w32 (of_z w32 a) *ℤ to_z w32 (of_z w32 b))
  product_small = fits_by (product_is w32 f g) part_fits

  pub product_read : to_z w32 (of_z w32 (to_z w32 (of_z w32 a) *ℤ to_z w32 (of_z w32 b))) ≡ a *ℤ b
  product_read = read w32 (product_is w32 f g) part_fits
