-- `masks::cover::check_cover_mask` meets its contract: the number of the first part that refuses.
use Rattle.std.proofs.Common.{sym, ap, ◌∙◌, arith, ℤ}
use Rattle.std.specs.Int.{w32}
use Rattle.arith.specs.Signed.{back}
use Rattle.record.specs.Numbers.Laws.{unless_good, failed, room, no_room}
use Rattle.record.specs.Refusals.Laws.{handed_on, stops, goes_on}
use Rattle.scatter.specs.Geometry.{time_number}
use Rattle.masks.specs.Calls.{settings_number, cover_mask_number}
use Rattle.masks.specs.Calls.Laws.{buffers_ready}
use Rattle.masks.proofs.cover.check_cover_mask.Goals as goal

pub returns-in_err-check_buffers : goal.returns-in_err-check_buffers
unfolding cover_mask_number
returns-in_err-check_buffers c = handed_on _ _ c.from_residual.ensures.1 ∙ stops _ _ c.in_err-check_buffers.ensures

pub grid_size-requires : goal.grid_size-requires
grid_size-requires c = (buffers_ready _ _ _ _ (sym c.in_ok-check_buffers.ensures)).sets.accepted

pub returns-then-scratch-grid_size : goal.returns-then-scratch-grid_size
unfolding cover_mask_number
returns-then-scratch-grid_size c =
    sym (failed _ 3 _ (no_room c.grid_size.ensures c.if-scratch-grid_size.true) (λ q. omega arith)) ∙ goes_on _ c.in_ok-check_buffers.ensures

pub returns-in_err-check_settings : goal.returns-in_err-check_settings
unfolding cover_mask_number
returns-in_err-check_settings c =
    let a = c.args in
    let z = unless_good _ 3 (room c.grid_size.ensures c.if-scratch-grid_size.false) in
    handed_on _ _ c.from_residual-in_err-check_settings.ensures.1
    ∙ stops _ _ (c.in_err-check_settings.ensures ∙ ap (λ (z : ℤ). settings_number a.side z a.sad_scale) (back w32 c.ranges.cover))
    ∙ goes_on _ (sym z)
    ∙ goes_on _ c.in_ok-check_buffers.ensures

pub returns : goal.returns
unfolding cover_mask_number
returns c =
    let a = c.args in
    let z = unless_good _ 3 (room c.grid_size.ensures c.if-scratch-grid_size.false) in
    c.check_time.ensures
    ∙ ap time_number (back w32 c.ranges.time)
    ∙ goes_on _ (c.in_ok-check_settings.ensures ∙ ap (λ (z : ℤ). settings_number a.side z a.sad_scale) (back w32 c.ranges.cover))
    ∙ goes_on _ (sym z)
    ∙ goes_on _ c.in_ok-check_buffers.ensures
