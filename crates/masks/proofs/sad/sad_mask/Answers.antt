-- `masks::sad::sad_mask` meets its contract: checked, then refused or done.
use Rattle.std.specs.Prelude.{refl, ℕ, ℤ, Float, length}
use Rattle.std.proofs.Common.{sym, ap, ◌∙◌}
use Rattle.std.specs.Int.{w32}
use Rattle.arith.specs.Signed.{back}
use Rattle.arith.specs.Splice.{over}
use Rattle.record.specs.Entries.{side_set}
use Rattle.record.specs.Numbers.Laws.{call_refused, call_accepted}
use Rattle.record.specs.Refusals.Laws.{code_positive, handed_on}
use Rattle.masks.specs.Sad.{sad_mask_of}
use Rattle.masks.specs.Calls.{sad_mask_number, sad_masked, sad_done, sad_mask_call}
use Rattle.masks.specs.Calls.Laws.{sad_ready}
use Rattle.masks.proofs.sad.sad_mask.Goals as goal

pub returns-in_err-check_sad_mask : goal.returns-in_err-check_sad_mask
unfolding sad_mask_call
returns-in_err-check_sad_mask c =
    let a = c.args in
    let e = c.in_err-check_sad_mask.ensures ∙ ap (λ (z : ℤ). sad_mask_number a.shape a.side (length a.backward.now) (length a.forward.now) (length a.mask.now) z a.sad_scale) (back w32 c.ranges.cover) in
    ap (λ (n : ℕ). sad_masked n a.mask.now) (handed_on _ _ c.from_residual.ensures.1)
    ∙ call_refused (λ (n : ℕ). sad_masked n a.mask.now) _ _ _ e (code_positive _)

pub sad_mask_ready-requires : goal.sad_mask_ready-requires
sad_mask_ready-requires c =
    let a = c.args in
    let e = c.in_ok-check_sad_mask.ensures ∙ ap (λ (z : ℤ). sad_mask_number a.shape a.side (length a.backward.now) (length a.forward.now) (length a.mask.now) z a.sad_scale) (back w32 c.ranges.cover) in
    sad_ready a.shape a.side _ _ _ a.cover a.sad_scale (sym e)

pub returns : goal.returns
unfolding sad_mask_call sad_done
returns c =
    let a = c.args in
    let e = c.in_ok-check_sad_mask.ensures ∙ ap (λ (z : ℤ). sad_mask_number a.shape a.side (length a.backward.now) (length a.forward.now) (length a.mask.now) z a.sad_scale) (back w32 c.ranges.cover) in
    ap (sad_masked 0)
    (c.sad_mask_ready.ensures
    ∙ ap (λ (scale : Float). over (sad_mask_of a.shape scale (side_set a.shape a.side a.backward.now a.forward.now)) a.mask.now) c.settings-settings.ensures.1)
    ∙ call_accepted (λ (n : ℕ). sad_masked n a.mask.now) _ _ _ e refl
