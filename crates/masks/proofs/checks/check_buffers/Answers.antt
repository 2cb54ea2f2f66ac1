-- `masks::checks::check_buffers` meets its contract: shape and sets, then the mask.
use Rattle.std.proofs.Common.{sym, ◌∙◌}
use Rattle.record.specs.Checks.Laws.{sets_ready}
use Rattle.record.specs.Numbers.Laws.{unless_good, unless_bad, room, no_room}
use Rattle.record.specs.Refusals.Laws.{handed_on, stops, goes_on}
use Rattle.masks.specs.Calls.{buffers_number}
use Rattle.masks.proofs.checks.check_buffers.Goals as goal

pub returns-in_err-check_sets : goal.returns-in_err-check_sets
unfolding buffers_number
returns-in_err-check_sets c = handed_on _ _ c.from_residual.ensures.1 ∙ stops _ _ c.in_err-check_sets.ensures

pub plane_size-requires : goal.plane_size-requires
plane_size-requires c = (sets_ready _ _ _ (sym c.in_ok-check_sets.ensures)).accepted

pub returns-then-mask-plane_size : goal.returns-then-mask-plane_size
unfolding buffers_number
returns-then-mask-plane_size c = sym (unless_bad _ 3 (no_room c.plane_size.ensures c.if-mask-plane_size.true)) ∙ goes_on _ c.in_ok-check_sets.ensures

pub returns : goal.returns
unfolding buffers_number
returns c = sym (unless_good _ 3 (room c.plane_size.ensures c.if-mask-plane_size.false)) ∙ goes_on _ c.in_ok-check_sets.ensures
