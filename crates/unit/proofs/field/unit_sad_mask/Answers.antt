-- `unit::field::unit_sad_mask` meets its contract: that of `sad_mask`, and both sets as they were.
use mathlib.Core.Path.{ap, ◌∙◌}
use mathlib.Core.List.{[], ◌∷◌}
use Prim.Native.Nat.{ℕ}
use lib.IntN.{ℤ}
use mir.Syntax.{w32}
use Rattle.arith.specs.Signed.{back}
use Rattle.masks.specs.Calls.{SadMasked, sad_masked, sad_mask_call}
use Rattle.unit.specs.Answers.{kept}
use Rattle.unit.proofs.field.unit_sad_mask.Goals as goal

pub sad_mask-requires : goal.sad_mask-requires
sad_mask-requires c = tt

pub shape_of-mask : goal.shape_of-mask
shape_of-mask c = c.sad_mask.auto.mask

pub returns : goal.returns
returns c =
    let a = c.args in
    ap (λ (m : SadMasked). kept m (a.backward.now ∷ a.forward.now ∷ []))
    (ap (λ (n : ℕ). sad_masked n c.sad_mask.new.mask) c.number.ensures
    ∙ c.sad_mask.ensures
    ∙ ap (λ (cover : ℤ). sad_mask_call a.shape a.side a.backward.now a.forward.now cover a.sad_scale a.mask.now)
    (back w32 c.ranges.cover))
