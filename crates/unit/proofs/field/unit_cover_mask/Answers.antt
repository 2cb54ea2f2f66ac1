-- `unit::field::unit_cover_mask` meets its contract: that of `cover_mask`, and both sets as they were.
use mathlib.Core.Path.{ap, ap₂, ◌∙◌}
use mathlib.Core.List.{[], ◌∷◌}
use Prim.Native.Nat.{ℕ}
use lib.IntN.{ℤ}
use mir.Syntax.{w32}
use Rattle.arith.specs.Signed.{back}
use Rattle.masks.specs.Calls.{CoverMasked, cover_masked, cover_mask_call}
use Rattle.unit.specs.Answers.{kept}
use Rattle.unit.proofs.field.unit_cover_mask.Goals as goal

pub cover_mask-requires : goal.cover_mask-requires
cover_mask-requires c = tt

pub shape_of-scratch : goal.shape_of-scratch
shape_of-scratch c = c.cover_mask.auto.scratch

pub shape_of-mask : goal.shape_of-mask
shape_of-mask c = c.cover_mask.auto.mask

pub returns : goal.returns
returns c =
    let a = c.args in
    ap (λ (m : CoverMasked). kept m (a.backward.now ∷ a.forward.now ∷ []))
    (ap (λ (n : ℕ). cover_masked n c.cover_mask.new.scratch c.cover_mask.new.mask) c.number.ensures
    ∙ c.cover_mask.ensures
    ∙ ap₂ (λ (cover time : ℤ). cover_mask_call a.shape a.side a.backward.now a.forward.now cover a.sad_scale time a.scratch.now a.mask.now)
    (back w32 c.ranges.cover) (back w32 c.ranges.time))
