-- `scatter::axis::parts` meets its contract: with q the floor of t / step, step × (q + 1) lies past t by at most one step.
use mathlib.Core.Path.{◌≡◌, ap, ◌∙◌}
use Prim.Native.Nat.{ℕ, ◌-◌}
use native.Mathlib.Omega.{arith}
use lib.IntN.{ℤ, pos, ◌+ℤ◌, ◌-ℤ◌, ◌*ℤ◌}
use mir.Syntax.{w32}
use mir.Val.{SFits, to_z, of_z}
use mir.ValLaws.{to_z_pos}
use Rattle.arith.specs.Floor.{mod_n}
use Rattle.arith.specs.Floor.Laws.{part_is}
use Rattle.arith.specs.Integers.{up, abs_sum, dif_sum}
use Rattle.arith.specs.Signed.{back, read, fits_by, abs_sfits}
use Rattle.scatter.specs.Block.{reach, q_of, r_of, l_of}
use Rattle.scatter.specs.Block.Laws.{PartsSmall, q_most, next_fits, parts_small, cell_fits, near_fits, far_fits}
use Rattle.scatter.specs.Geometry.{parts_of}
use Rattle.scatter.proofs.axis.parts.Goals as goal

module _ (s : goal.Start) where
  abbrev n : ℕ
  n = up s.args.step

  abbrev t : ℤ
  t = s.args.t

  abbrev q : ℤ
  q = q_of n t

  small : PartsSmall s.args.block n s.args.at t
  small = parts_small s.requires.block_is s.requires.block_most s.requires.step_least s.requires.step_most s.requires.at_most s.requires.t_most

  step_is : to_z w32 (of_z w32 s.args.step) ≡ pos n
  step_is = back w32 s.ranges.step ∙ s.requires.step_is

  q_is : to_z w32 (of_z w32 s.args.q) ≡ q
  q_is = back w32 s.ranges.q ∙ s.requires.floored

  at_is : to_z w32 s.args.at ≡ pos s.args.at
  at_is = to_z_pos w32 s.args.at (omega (arith, s.requires.at_most))

  cell_is : to_z w32 s.args.at +ℤ to_z w32 (of_z w32 s.args.q) ≡ pos s.args.at +ℤ q
  cell_is = λ i. at_is i +ℤ q_is i

  more_is : to_z w32 (of_z w32 s.args.q) +ℤ pos 1 ≡ q +ℤ pos 1
  more_is = ap (λ (z : ℤ). z +ℤ pos 1) q_is

  more_fits : SFits w32 (q +ℤ pos 1)
  more_fits = next_fits q (omega (arith, q_most n t reach s.requires.t_most))

  line_is : to_z w32 (of_z w32 s.args.step) *ℤ to_z w32 (of_z w32 (to_z w32 (of_z w32 s.args.q) +ℤ pos 1)) ≡ pos n *ℤ (q +ℤ pos 1)
  line_is = λ i. step_is i *ℤ read w32 more_is more_fits i

  line_fits : SFits w32 (pos n *ℤ (q +ℤ pos 1))
  unfolding q_of
  line_fits =
      fits_by (dif_sum (pos n *ℤ (q +ℤ pos 1)) t (pos (n - mod_n t n)) (part_is t n s.requires.step_least))
      (abs_sfits w32 _ (omega (arith, abs_sum t (pos (n - mod_n t n)), s.requires.t_most, s.requires.step_most)))

  near_is : to_z w32 (of_z w32 (to_z w32 (of_z w32 s.args.step) *ℤ to_z w32 (of_z w32 (to_z w32 (of_z w32 s.args.q) +ℤ pos 1)))) -ℤ to_z w32 (of_z w32 t)
      ≡ r_of n t
  unfolding r_of
  near_is = λ i. read w32 line_is line_fits i -ℤ back w32 s.ranges.t i

  far_is : to_z w32 (of_z w32 s.args.block)
      -ℤ to_z w32
      (of_z w32 (to_z w32 (of_z w32 (to_z w32 (of_z w32 s.args.step) *ℤ to_z w32 (of_z w32 (to_z w32 (of_z w32 s.args.q) +ℤ pos 1)))) -ℤ to_z w32 (of_z w32 t)))
      ≡ l_of s.args.block n t
  unfolding l_of
  far_is = λ i. back w32 s.ranges.block i -ℤ read w32 near_is (near_fits small) i

pub overflow_add-cell : goal.overflow_add-cell
overflow_add-cell c = fits_by (cell_is c) (cell_fits (small c))

pub overflow_add-near : goal.overflow_add-near
overflow_add-near c = fits_by (more_is c) (more_fits c)

pub overflow_mul-near : goal.overflow_mul-near
overflow_mul-near c = fits_by (line_is c) (line_fits c)

pub overflow_sub-near : goal.overflow_sub-near
overflow_sub-near c = fits_by (near_is c) (near_fits (small c))

pub overflow_sub-far : goal.overflow_sub-far
overflow_sub-far c = fits_by (far_is c) (far_fits (small c))

pub returns : goal.returns
unfolding parts_of
returns c =
    λ i. record {
      cell = read w32 (cell_is c) (cell_fits (small c)) i;
      near = read w32 (near_is c) (near_fits (small c)) i;
      far = read w32 (far_is c) (far_fits (small c)) i;
    }
