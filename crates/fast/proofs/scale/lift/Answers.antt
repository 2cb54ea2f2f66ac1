-- `fast::scale::lift` meets its contract, by the sign of the value.
use mathlib.Core.Path.{◌≡◌, sym, ap, ◌∙◌}
use lib.IntN.{ℤ, pos}
use lib.Signed.{lt_z}
use mir.Syntax.{w32}
use mir.Val.{SFits, to_z, of_z}
use Rattle.arith.specs.Booleans.{cond_true, cond_false}
use Rattle.arith.specs.Signed.{back}
use Rattle.fast.proofs.scale.lift.Goals as goal

-- the test as code reads the value back
tested : (v : ℤ) → SFits w32 v → lt_z v (pos 0) ≡ lt_z (to_z w32 (of_z w32 v)) (pos 0)
tested v f = ap (λ (z : ℤ). lt_z z (pos 0)) (sym (back w32 f))

pub returns-then-value-lt0 : goal.returns-then-value-lt0
returns-then-value-lt0 c =
    let s = c in
    back w32 s.ranges.round ∙ sym (cond_true (lt_z s.args.value (pos 0)) s.args.round (pos 0) (tested s.args.value s.ranges.value ∙ c.if-value-lt0.true))

pub returns : goal.returns
returns c =
    let s = c in
    sym (cond_false (lt_z s.args.value (pos 0)) s.args.round (pos 0) (tested s.args.value s.ranges.value ∙ c.if-value-lt0.false))
