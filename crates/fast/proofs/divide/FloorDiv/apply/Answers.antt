-- `fast::divide::FloorDiv::apply` meets its contract: the value moved up by the offset is a natural n, the product shifted down is n's quotient,
-- and the bias taken from it leaves the floor.
use mathlib.Core.Path.{◌≡◌, ap, ◌∙◌}
use Prim.Native.Nat.{ℕ, ◌+◌, ◌-◌, ◌*◌, ◌/◌, ◌^◌, ◌≤◌, ◌<◌}
use native.Mathlib.Nat.{div-le_self}
use native.Mathlib.Omega.{arith}
use lib.IntN.{ℤ, pos, nat_abs, ◌+ℤ◌, ◌-ℤ◌}
use mir.Syntax.{w32}
use mir.Val.{SFits, to_z, of_z}
use mir.ValLaws.{to_z_pos}
use Rattle.arith.specs.Signed.{back, read, fits_by}
use Rattle.arith.specs.Floor.{floor_n}
use Rattle.arith.specs.Floor.Laws.{floor_fits}
use Rattle.scatter.specs.Block.{reach}
use Rattle.fast.specs.declared.divide.FloorDiv.{FloorDiv}
use Rattle.fast.specs.Reciprocal.{widest, DivReady, ceil_of, bias_of, floor_div_of, raised_of}
use Rattle.fast.specs.Reciprocal.Laws.{ceil_least, offset_most, bias_most, one_less, raised_is, raised_most, raised_product, raised_quotient, raised_floor}
use Rattle.fast.proofs.divide.FloorDiv.apply.Goals as goal

module _ (f : FloorDiv) (value : ℤ) (ready : DivReady f) (within : nat_abs value ≤ reach) (fits : SFits w32 value) where
  abbrev D : ℕ
  D = nat_abs f.divisor

  abbrev N : ℕ
  N = raised_of (nat_abs f.divisor) value

  -- the number that the code multiplies, and its product, as it computes them
  abbrev moved : ℤ
  moved = to_z w32 (of_z w32 value) +ℤ to_z w32 (of_z w32 f.offset)

  abbrev product : ℕ
  product = nat_abs (to_z w32 (of_z w32 moved)) * f.less + nat_abs (to_z w32 (of_z w32 moved))

  least : 1 ≤ D
  least = ready.least

  most : D ≤ widest
  most = ready.most

  N-most : N < 16777216
  N-most = raised_most D least most value within

  N-fits : SFits w32 (pos N)
  N-fits = record { sfits = omega (arith, N-most) }

  offset_read : to_z w32 (of_z w32 f.offset) ≡ pos (bias_of D * D)
  unfolding floor_div_of
  offset_read = read w32 (ap (λ (d : FloorDiv). d.offset) ready.is) (record { sfits = omega (arith, offset_most D least most) })

  bias_read : to_z w32 (of_z w32 f.bias) ≡ pos (bias_of D)
  unfolding floor_div_of
  bias_read = read w32 (ap (λ (d : FloorDiv). d.bias) ready.is) (record { sfits = omega (arith, bias_most D least most) })

  less_is : f.less ≡ ceil_of D - 1
  unfolding floor_div_of
  less_is = ap (λ (d : FloorDiv). d.less) ready.is

  moved_is : moved ≡ pos N
  moved_is = (λ i. back w32 fits i +ℤ offset_read i) ∙ raised_is D least most value within

  n_is : to_z w32 (of_z w32 moved) ≡ pos N
  n_is = read w32 moved_is N-fits

  product_is : product ≡ N * ceil_of D
  product_is = (λ i. nat_abs (n_is i) * less_is i + nat_abs (n_is i)) ∙ one_less N (ceil_of D) (omega (arith, ceil_least D least most))

  product_most : N * ceil_of D < 2 ^ 64
  product_most = raised_product D least most value within

  quotient_is : product / 4294967296 ≡ N / D
  quotient_is = ap (λ (x : ℕ). x / 4294967296) product_is ∙ raised_quotient D least most value within

  quotient_most : N / D < 2147483648
  quotient_most = omega (arith, div-le_self N D, N-most)

  floor_is : to_z w32 (product / 4294967296) -ℤ to_z w32 (of_z w32 f.bias) ≡ floor_n value D
  floor_is =
      (λ i. (ap (to_z w32) quotient_is ∙ to_z_pos w32 (N / D) quotient_most) i -ℤ bias_read i)
      ∙ raised_floor D least most value within

  floor_small : SFits w32 (floor_n value D)
  floor_small = floor_fits w32 value D fits

pub overflow_add-up : goal.overflow_add-up
overflow_add-up c = fits_by (moved_is c.args.self c.args.value c.requires.0 c.requires.1 c.ranges.value) (N-fits c.args.self c.args.value c.requires.0 c.requires.1 c.ranges.value)

pub overflow_cast-k : goal.overflow_cast-k
overflow_cast-k c = let m = N-most c.args.self c.args.value c.requires.0 c.requires.1 c.ranges.value in rw (n_is c.args.self c.args.value c.requires.0 c.requires.1 c.ranges.value) (tt, record { fits = omega arith })

pub overflow_cast-n : goal.overflow_cast-n
overflow_cast-n c = let m = N-most c.args.self c.args.value c.requires.0 c.requires.1 c.ranges.value in rw (n_is c.args.self c.args.value c.requires.0 c.requires.1 c.ranges.value) (record { fits = omega arith })

pub overflow_mul-q : goal.overflow_mul-q
overflow_mul-q c = record { fits = omega (arith, product_is c.args.self c.args.value c.requires.0 c.requires.1 c.ranges.value, product_most c.args.self c.args.value c.requires.0 c.requires.1 c.ranges.value) }

pub overflow_add-q : goal.overflow_add-q
overflow_add-q c = record { fits = omega (arith, product_is c.args.self c.args.value c.requires.0 c.requires.1 c.ranges.value, product_most c.args.self c.args.value c.requires.0 c.requires.1 c.ranges.value) }

pub overflow_cast-result : goal.overflow_cast-result
overflow_cast-result c = fits_by (ap pos (quotient_is c.args.self c.args.value c.requires.0 c.requires.1 c.ranges.value)) (record { sfits = quotient_most c.args.self c.args.value c.requires.0 c.requires.1 c.ranges.value })

pub overflow_sub-result : goal.overflow_sub-result
overflow_sub-result c = fits_by (floor_is c.args.self c.args.value c.requires.0 c.requires.1 c.ranges.value) (floor_small c.args.self c.args.value c.requires.0 c.requires.1 c.ranges.value)

pub returns : goal.returns
returns c = read w32 (floor_is c.args.self c.args.value c.requires.0 c.requires.1 c.ranges.value) (floor_small c.args.self c.args.value c.requires.0 c.requires.1 c.ranges.value)
