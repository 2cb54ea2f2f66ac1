-- `masks::cover::cover_mask` meets its contract: checked, then refused or done.
use Rattle.std.specs.Prelude.{refl, ℕ, ℤ, Float, length}
use Rattle.std.proofs.Common.{sym, ap, ap₂, ◌∙◌}
use Rattle.std.specs.Int.{w32}
use Rattle.arith.specs.Signed.{back}
use Rattle.record.specs.Numbers.Laws.{call_refused, call_accepted}
use Rattle.record.specs.Refusals.Laws.{code_positive, handed_on}
use Rattle.levels.specs.Level.{cover_scale}
use Rattle.masks.specs.Calls.{cover_mask_number, cover_masked, cover_done, cover_mask_call}
use Rattle.masks.specs.Calls.Laws.{cover_ready}
use Rattle.masks.proofs.cover.cover_mask.Goals as goal

pub returns-in_err-check_cover_mask : goal.returns-in_err-check_cover_mask
unfolding cover_mask_call
returns-in_err-check_cover_mask c =
    let a = c.args in
    let e = c.in_err-check_cover_mask.ensures
    ∙ ap₂ (λ (z t : ℤ). cover_mask_number a.shape a.side (length a.backward.now) (length a.forward.now) (length a.scratch.now) (length a.mask.now) z a.sad_scale t) (back w32 c.ranges.cover) (back w32 c.ranges.time) in
    ap (λ (n : ℕ). cover_masked n a.scratch.now a.mask.now) (handed_on _ _ c.from_residual.ensures.1)
    ∙ call_refused (λ (n : ℕ). cover_masked n a.scratch.now a.mask.now) _ _ _ e (code_positive _)

pub cover_mask_ready-requires : goal.cover_mask_ready-requires
cover_mask_ready-requires c =
    let a = c.args in
    cover_ready a.shape a.side _ _ _ _ _ a.sad_scale _ (sym c.in_ok-check_cover_mask.ensures)

pub returns : goal.returns
unfolding cover_mask_call
returns c =
    let a = c.args in
    let e = c.in_ok-check_cover_mask.ensures
    ∙ ap₂ (λ (z t : ℤ). cover_mask_number a.shape a.side (length a.backward.now) (length a.forward.now) (length a.scratch.now) (length a.mask.now) z a.sad_scale t) (back w32 c.ranges.cover) (back w32 c.ranges.time) in
    c.cover_mask_ready.ensures
    ∙ ap₂ (λ (f : Float) (t : ℤ). cover_done a.shape a.side a.backward.now a.forward.now f t a.scratch.now a.mask.now)
    (c.settings-settings.ensures.0 ∙ ap cover_scale (back w32 c.ranges.cover)) (back w32 c.ranges.time)
    ∙ call_accepted (λ (n : ℕ). cover_masked n a.scratch.now a.mask.now) _ _ _ e refl
