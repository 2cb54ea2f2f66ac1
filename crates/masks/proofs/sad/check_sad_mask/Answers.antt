-- `masks::sad::check_sad_mask` meets its contract: the number of the first part that refuses.
use Rattle.std.proofs.Common.{ap, ◌∙◌, ℤ}
use Rattle.std.specs.Int.{w32}
use Rattle.arith.specs.Signed.{back}
use Rattle.record.specs.Refusals.Laws.{handed_on, stops, goes_on}
use Rattle.masks.specs.Calls.{settings_number, sad_mask_number}
use Rattle.masks.proofs.sad.check_sad_mask.Goals as goal

pub returns-in_err-check_buffers : goal.returns-in_err-check_buffers
unfolding sad_mask_number
returns-in_err-check_buffers c = handed_on _ _ c.from_residual.ensures.1 ∙ stops _ _ c.in_err-check_buffers.ensures

pub returns : goal.returns
unfolding sad_mask_number
returns c =
    let a = c.args in
    c.check_settings.ensures
    ∙ ap (λ (z : ℤ). settings_number a.side z a.sad_scale) (back w32 c.ranges.cover)
    ∙ goes_on _ c.in_ok-check_buffers.ensures
