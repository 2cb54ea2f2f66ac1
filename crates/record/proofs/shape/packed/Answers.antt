-- `record::shape::packed` meets its contract: every number on the way is below 2^19.
use Prim.Native.Nat.{◌+◌, ◌*◌, ◌<◌}
use native.Mathlib.Omega.{arith}
use mathlib.Core.Path.{◌≡◌, sym, ap, ◌∙◌}
use mathlib.Core.Bool.{Bool, cond}
use lib.IntN.{ℤ, pos, ◌+ℤ◌, ◌-ℤ◌, ◌*ℤ◌}
use lib.Signed.{lt_z}
use mir.Syntax.{w32}
use mir.Val.{SFits, to_z, of_z}
use Rattle.arith.specs.Integers.{up, abs_sum, mul_below}
use Rattle.arith.specs.Signed.{read, fits_by, abs_sfits}
use Rattle.record.specs.Shape.{packed_of, step_of}
use Rattle.record.specs.Shape.Laws.{Axis, overlap_abs, overlap_back, step_made, step_small, grid_read, grid_cast, grid_count, picture_back}
use Rattle.record.proofs.shape.packed.Goals as goal

module _ {block overlap grid picture : ℤ} (a : Axis block overlap grid picture) where
  span_reads : to_z w32 (of_z w32 (to_z w32 (of_z w32 block) -ℤ to_z w32 (of_z w32 overlap))) *ℤ to_z w32 (of_z w32 grid) ≡ pos (step_of block overlap * up grid)
  span_reads = λ i. read w32 (step_made a) (step_small a) i *ℤ grid_read a i

  span_below : step_of block overlap * up grid < 262145
  span_below = mul_below _ _ 256 1024 262145 a.step_range.most a.grid_range.most tt

  span_fits : SFits w32 (pos (step_of block overlap * up grid))
  span_fits = let h = span_below in record { sfits = omega arith }

  whole_reads : to_z w32 (of_z w32 (to_z w32 (of_z w32 (to_z w32 (of_z w32 block) -ℤ to_z w32 (of_z w32 overlap))) *ℤ to_z w32 (of_z w32 grid))) +ℤ to_z w32 (of_z w32 overlap) ≡ pos (step_of block overlap * up grid) +ℤ overlap
  whole_reads = λ i. read w32 span_reads span_fits i +ℤ overlap_back a i

  whole_fits : SFits w32 (pos (step_of block overlap * up grid) +ℤ overlap)
  whole_fits =
      let h = span_below in
      let o = overlap_abs a in
      abs_sfits w32 _ (omega (arith, abs_sum (pos (step_of block overlap * up grid)) overlap))

  -- the code's test is the definition's
  test : lt_z ((block -ℤ overlap) *ℤ grid +ℤ overlap) picture ≡ lt_z (to_z w32 (of_z w32 (to_z w32 (of_z w32 (to_z w32 (of_z w32 (to_z w32 (of_z w32 block) -ℤ to_z w32 (of_z w32 overlap))) *ℤ to_z w32 (of_z w32 grid))) +ℤ to_z w32 (of_z w32 overlap)))) (to_z w32 (of_z w32 picture))
  test = sym ((λ i. lt_z (read w32 whole_reads whole_fits i) (picture_back a i)) ∙ (λ i. lt_z (sym a.step_range.is i *ℤ sym a.grid_range.is i +ℤ overlap) picture))

pub overflow_sub-span : goal.overflow_sub-span
overflow_sub-span c = fits_by (step_made c.requires) (step_small c.requires)

pub overflow_mul-span : goal.overflow_mul-span
overflow_mul-span c = fits_by (span_reads c.requires) (span_fits c.requires)

pub overflow_add-span : goal.overflow_add-span
overflow_add-span c = fits_by (whole_reads c.requires) (whole_fits c.requires)

pub overflow_cast-side : goal.overflow_cast-side
overflow_cast-side c = grid_cast c.requires

pub overflow_add-result : goal.overflow_add-result
overflow_add-result c = let h = c.requires.grid_range.most in rw (grid_count c.requires) (record { fits = omega arith })

pub returns-then-span-picture : goal.returns-then-span-picture
unfolding packed_of
returns-then-span-picture c = λ i. grid_count c.requires i + cond (sym (test c.requires ∙ c.if-span-picture.true) i) 1 0

pub returns-else-span-picture : goal.returns-else-span-picture
unfolding packed_of
returns-else-span-picture c =
    let g = c.requires in
    grid_count g ∙ sym (ap (λ (t : Bool). up c.args.grid + cond t 1 0) (test g ∙ c.if-span-picture.false) ∙ omega arith)
