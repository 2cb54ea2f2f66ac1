-- `record::shape::axis_accepted` meets its contract: four ranges, in turn.
use native.Mathlib.Omega.{arith}
use mathlib.Core.Path.{◌≡◌, sym, ap, ap₂, ◌∙◌}
use mathlib.Core.Bool.{Bool, true, ◌&&◌}
use lib.IntN.{ℤ, pos, ◌-ℤ◌}
use mir.Syntax.{w32}
use mir.Val.{SFits, to_z, of_z}
use Rattle.arith.specs.Booleans.{by_test}
use Rattle.arith.specs.Integers.{in_range, range_true, dif_z}
use Rattle.arith.specs.Signed.{back, read, fits_by, bounds_fit}
use Rattle.record.specs.Shape.{axis_accepted}
use Rattle.record.proofs.shape.axis_accepted.Goals as goal
use Rattle.record.proofs.shape.axis_accepted.Lts as lts
use Rattle.record.proofs.shape.axis_accepted.Reads as reads
use Rattle.record.proofs.shape.axis_accepted.Tie as tie

-- ---- the four tests of the definition, and what the code found of each

module _ (s : lts.Start tie.the-claims reads.Pre reads.Post) where
  abbrev b : Bool
  b = in_range (pos 1) (pos 256) s.args.block

  abbrev o : Bool
  o = in_range (pos 0) (s.args.block -ℤ pos 1) s.args.overlap

  abbrev g : Bool
  g = in_range (pos 1) (pos 1024) s.args.grid

  abbrev p : Bool
  p = in_range (pos 1) (pos 65535) s.args.picture

  -- past the block's side and the overlap, the other two decide
  past_overlap : b ≡ true → o ≡ true → (g && p) ≡ (b && o && g && p)
  past_overlap e f = by_test (λ t. t && g && p) f ∙ by_test (λ t. t && o && g && p) e

  -- block - 1, where block is at least 1
  less : to_z w32 (of_z w32 s.args.block) -ℤ pos 1 ≡ s.args.block -ℤ pos 1
  less = ap (λ (z : ℤ). z -ℤ pos 1) (back w32 s.ranges.block)

  less_fits : b ≡ true → SFits w32 (s.args.block -ℤ pos 1)
  less_fits e =
      let z = s.args.block in
      let h = range_true (pos 1) (pos 256) z e in
      bounds_fit w32 _ (λ q. omega (arith, dif_z z (pos 1))) (λ q. omega (arith, dif_z z (pos 1)))

block_is : (c : lts.After-in_range tie.the-claims reads.Pre reads.Post) → c.in_range.result ≡ b c.before
block_is c = c.in_range.ensures ∙ ap (in_range (pos 1) (pos 256)) (back w32 c.ranges.block)

block_yes : (c : goal.Else-not-in_range) → b c.before.before ≡ true
block_yes c = sym (block_is c.before) ∙ c.if-not-in_range.false

overlap_is : (c : lts.After-in_range2 tie.the-claims reads.Pre reads.Post) → c.in_range-2.result ≡ o c.before.before.before
overlap_is c =
    let s = c in
    c.in_range-2.ensures
    ∙ ap₂ (λ (h z : ℤ). in_range (pos 0) h z) (read w32 (less s.before.before.before) (less_fits s.before.before.before (block_yes c.before))) (back w32 s.ranges.overlap)

overlap_yes : (c : lts.Else2 tie.the-claims reads.Pre reads.Post) → o c.before.before.before.before ≡ true
overlap_yes c = sym (overlap_is c.before) ∙ c.if-not-in_range-2.false

grid_is : (c : lts.After-in_range3 tie.the-claims reads.Pre reads.Post) → c.in_range-3.result ≡ g c.before.before.before.before.before
grid_is c = c.in_range-3.ensures ∙ ap (in_range (pos 1) (pos 1024)) (back w32 c.ranges.grid)

grid_yes : (c : lts.Else3 tie.the-claims reads.Pre reads.Post) → g c.before.before.before.before.before.before ≡ true
grid_yes c = sym (grid_is c.before) ∙ c.if-not-in_range-3.false

pub returns-then-not-in_range : goal.returns-then-not-in_range
unfolding axis_accepted
returns-then-not-in_range c = let s = c in by_test (λ t. t && o s.before.before && g s.before.before && p s.before.before) (sym (block_is c.before) ∙ c.if-not-in_range.true)

pub overflow_sub-block : goal.overflow_sub-block
overflow_sub-block c = fits_by (less c.before.before) (less_fits c.before.before (block_yes c))

pub returns-then-not-in_range-2 : goal.returns-then-not-in_range-2
unfolding axis_accepted
returns-then-not-in_range-2 c =
    let d = c in
    let s = d in
    by_test (λ t. t && g s.before.before.before.before && p s.before.before.before.before) (sym (overlap_is c.before) ∙ c.if-not-in_range-2.true) ∙ by_test (λ t. t && o s.before.before.before.before && g s.before.before.before.before && p s.before.before.before.before) (block_yes d.before.before)

pub returns-then-not-in_range-3 : goal.returns-then-not-in_range-3
unfolding axis_accepted
returns-then-not-in_range-3 c =
    let e = c in
    let d = e in
    let s = d in
    by_test (λ t. t && p s.before.before.before.before.before.before) (sym (grid_is c.before) ∙ c.if-not-in_range-3.true) ∙ past_overlap s.before.before.before.before.before.before (block_yes d.before.before.before.before) (overlap_yes e.before.before)

pub returns : goal.returns
unfolding axis_accepted
returns c =
    let e = c in
    let d = e in
    let s = d in
    c.in_range-4.ensures
    ∙ ap (in_range (pos 1) (pos 65535)) (back w32 s.ranges.picture)
    ∙ by_test (λ t. t && p s.before.before.before.before.before.before.before) (grid_yes c.before)
    ∙ past_overlap s.before.before.before.before.before.before.before (block_yes d.before.before.before.before.before) (overlap_yes e.before.before.before)
