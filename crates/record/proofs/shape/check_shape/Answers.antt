-- `record::shape::check_shape` meets its contract: both axes and the pel, in turn.
use Prim.Native.Nat.{ℕ}
use mathlib.Core.Path.{◌≡◌, sym, ap, ◌∙◌}
use mathlib.Core.Bool.{Bool, true, ◌&&◌}
use lib.IntN.{pos}
use mir.Syntax.{w32}
use Rattle.arith.specs.Booleans.{by_test}
use Rattle.arith.specs.Integers.{in_range}
use Rattle.arith.specs.Signed.{back}
use Rattle.record.specs.declared.shape.FieldShape.{FieldShape}
use Rattle.record.specs.Numbers.{unless}
use Rattle.record.specs.Shape.{axis_accepted, shape_accepted, shape_number}
use Rattle.record.proofs.shape.check_shape.Goals as goal
use Rattle.record.proofs.shape.check_shape.Lts as lts
use Rattle.record.proofs.shape.check_shape.Reads as reads
use Rattle.record.proofs.shape.check_shape.Tie as tie

-- ---- the three tests of the definition, and what the code found of each

module _ (c : lts.After-axis_accepted tie.the-claims reads.Pre reads.Post) where
  abbrev s : FieldShape
  s = c.args.shape

  abbrev x : Bool
  x = axis_accepted s.block_w s.overlap_x s.grid_w s.width

  abbrev y : Bool
  y = axis_accepted s.block_h s.overlap_y s.grid_h s.height

  abbrev p : Bool
  p = in_range (pos 1) (pos 64) s.pel

  x_is : c.axis_accepted.result ≡ x
  x_is =
      c.axis_accepted.ensures
      ∙ (λ i. axis_accepted (back w32 {z = s.block_w} (record { sfits = c.struct_told-4-1.given.1.0.1 }) i) (back w32 {z = s.overlap_x} (record { sfits = c.struct_told-4-1.given.1.1.1.1.1.1.0.1 }) i) (back w32 {z = s.grid_w} (record { sfits = c.struct_told-4-1.given.1.1.1.1.1.1.1.1.0.1 }) i) (back w32 {z = s.width} (record { sfits = c.struct_told-4-1.given.1.1.1.1.0.1 }) i))

  -- past both axes, the pel decides
  past_axes : x ≡ true → y ≡ true → p ≡ (x && y && p)
  past_axes e f = by_test (λ t. t && p) f ∙ by_test (λ t. t && y && p) e

abbrev number : Bool → ℕ
number t = unless t 2

x_yes : (c : lts.Else1 tie.the-claims reads.Pre reads.Post) → x c.before ≡ true
x_yes c = sym (x_is c.before) ∙ c.if-not-axis_accepted.false

y_is : (c : lts.After-axis_accepted2 tie.the-claims reads.Pre reads.Post) → c.axis_accepted-2.result ≡ y c.before.before.before.before.before.before
y_is c =
    let s = s c.before.before.before.before.before.before in
    c.axis_accepted-2.ensures
    ∙ (λ i. axis_accepted (back w32 {z = s.block_h} (record { sfits = c.struct_told-8-1.given.1.1.0.1 }) i) (back w32 {z = s.overlap_y} (record { sfits = c.struct_told-8-1.given.1.1.1.1.1.1.1.0.1 }) i) (back w32 {z = s.grid_h} (record { sfits = c.struct_told-8-1.given.1.1.1.1.1.1.1.1.1.0.1 }) i) (back w32 {z = s.height} (record { sfits = c.struct_told-8-1.given.1.1.1.1.1.0.1 }) i))

y_yes : (c : lts.Else2 tie.the-claims reads.Pre reads.Post) → y c.before.before.before.before.before.before.before ≡ true
y_yes c = sym (y_is c.before) ∙ c.if-not-axis_accepted-2.false

p_is : (c : lts.After-in_range tie.the-claims reads.Pre reads.Post) → c.in_range.result ≡ p c.before.before.before.before.before.before.before.before.before
p_is c =
    let s = s c.before.before.before.before.before.before.before.before.before in
    c.in_range.ensures ∙ ap (in_range (pos 1) (pos 64)) (back w32 {z = s.pel} (record { sfits = c.struct_told-9-1.given.1.1.1.0.1 }))

pub returns-then-not-axis_accepted : goal.returns-then-not-axis_accepted
unfolding shape_number shape_accepted unless
returns-then-not-axis_accepted c = let d = c in ap number (by_test (λ t. t && y d.before && p d.before) (sym (x_is d.before) ∙ c.if-not-axis_accepted.true))

pub returns-then-not-axis_accepted-2 : goal.returns-then-not-axis_accepted-2
unfolding shape_number shape_accepted unless
returns-then-not-axis_accepted-2 c =
    let e = c in
    let d = e in
    ap number (by_test (λ t. t && p d.before.before.before.before.before.before.before) (sym (y_is c.before) ∙ c.if-not-axis_accepted-2.true) ∙ by_test (λ t. t && y d.before.before.before.before.before.before.before && p d.before.before.before.before.before.before.before) (x_yes e.before.before.before.before.before.before))

pub returns-then-not-in_range : goal.returns-then-not-in_range
unfolding shape_number shape_accepted unless
returns-then-not-in_range c =
    let f = c in
    let e = f in
    let d = e in
    ap number (sym (sym (p_is c.before) ∙ c.if-not-in_range.true) ∙ past_axes d.before.before.before.before.before.before.before.before.before.before (x_yes e.before.before.before.before.before.before.before.before.before) (y_yes f.before.before.before))

pub returns : goal.returns
unfolding shape_number shape_accepted unless
returns c =
    let f = c in
    let e = f in
    let d = e in
    ap number (sym (sym (p_is c.before) ∙ c.if-not-in_range.false) ∙ past_axes d.before.before.before.before.before.before.before.before.before.before (x_yes e.before.before.before.before.before.before.before.before.before) (y_yes f.before.before.before))
