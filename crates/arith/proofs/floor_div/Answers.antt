-- `arith::floor_div` meets its contract: truncate, and step down where the remainder is negative.
use Rattle.std.proofs.Common.{◌≡◌, ℕ, ◌<◌, ℤ, pos, ◌-ℤ◌, nat_abs, sym, ap, ◌∙◌, subst, w32, SFits, to_z, of_z}
use lib.Signed.{quot_z, rem_z, lt_z, mag_rem}
use mir.ValLaws.{sfits_le}
use Rattle.arith.specs.Integers.{positive, abs_positive}
use Rattle.arith.specs.Signed.{back, read, fits_by, quot_fits}
use Rattle.arith.specs.Floor.{floor_n}
use Rattle.arith.specs.Floor.Laws.{floor_fits, floor_down, floor_same}
use Rattle.arith.proofs.floor_div.Goals as goal

-- the divisor, as a natural number
abbrev n : goal.Start → ℕ
n c = nat_abs c.args.divisor

d_is : (c : goal.Start) → to_z w32 (of_z w32 c.args.divisor) ≡ pos (n c)
d_is c = back w32 c.ranges.divisor ∙ positive c.args.divisor c.requires

d_pos : (c : goal.Start) → 0 < n c
d_pos c = abs_positive c.args.divisor c.requires

bits_pos : (c : goal.Start) → 0 < of_z w32 c.args.divisor
bits_pos c = subst (λ (z : ℤ). 0 < of_z w32 z) (sym (positive c.args.divisor c.requires)) (d_pos c)

q_fits : (c : goal.Start) → SFits w32 (quot_z c.args.value (pos (n c)))
q_fits c = quot_fits w32 _ (n c) c.ranges.value

pub nonzero_div-q : goal.nonzero_div-q
nonzero_div-q c = (bits_pos c, fits_by (λ i. quot_z (back w32 c.ranges.value i) (d_is c i)) (q_fits c))

pub nonzero_rem-m : goal.nonzero_rem-m
nonzero_rem-m c = nonzero_div-q c

-- q and m, as the code reads them
q_is : (c : goal.Start) → to_z w32 (of_z w32 (quot_z (to_z w32 (of_z w32 c.args.value)) (to_z w32 (of_z w32 c.args.divisor)))) ≡ quot_z c.args.value (pos (n c))
q_is c = read w32 (λ i. quot_z (back w32 c.ranges.value i) (d_is c i)) (q_fits c)

m_is : (c : goal.Start) → to_z w32 (of_z w32 (rem_z (to_z w32 (of_z w32 c.args.value)) (to_z w32 (of_z w32 c.args.divisor)))) ≡ rem_z c.args.value (pos (n c))
m_is c = read w32 (λ i. rem_z (back w32 c.ranges.value i) (d_is c i)) (sfits_le (mag_rem c.args.value (pos (n c))) c.ranges.value)

down : (c : goal.Then-m-lt0) → quot_z c.args.value (pos (n c.before)) -ℤ pos 1 ≡ floor_n c.args.value (n c.before)
down c = floor_down c.args.value (n c.before) (d_pos c.before) (ap (λ (z : ℤ). lt_z z (pos 0)) (sym (m_is c.before)) ∙ c.if-m-lt0.true)

down_is : (c : goal.Then-m-lt0) → to_z w32 (of_z w32 (quot_z (to_z w32 (of_z w32 c.args.value)) (to_z w32 (of_z w32 c.args.divisor)))) -ℤ pos 1 ≡ floor_n c.args.value (n c.before)
down_is c = (λ i. q_is c.before i -ℤ pos 1) ∙ down c

pub overflow_sub-result : goal.overflow_sub-result
overflow_sub-result c = fits_by (down_is c) (floor_fits w32 _ (n c.before) c.ranges.value)

pub returns-then-m-lt0 : goal.returns-then-m-lt0
returns-then-m-lt0 c = read w32 (down_is c) (floor_fits w32 _ (n c.before) c.ranges.value)

pub returns-else-m-lt0 : goal.returns-else-m-lt0
returns-else-m-lt0 c = q_is c.before ∙ floor_same c.args.value (n c.before) (d_pos c.before) (ap (λ (z : ℤ). lt_z z (pos 0)) (sym (m_is c.before)) ∙ c.if-m-lt0.false)
