-- `pooling::payloads::check_both` meets its contract: the first payload's, else the second's.
use Rattle.std.proofs.Common.{◌∙◌}
use Rattle.record.specs.Refusals.Laws.{handed_on, stops, goes_on}
use Rattle.pooling.specs.Pool.{both_number}
use Rattle.pooling.proofs.payloads.check_both.Goals as goal

pub returns-in_err-check_payload : goal.returns-in_err-check_payload
unfolding both_number
returns-in_err-check_payload c = handed_on _ _ c.from_residual.ensures.1 ∙ stops _ _ c.in_err-check_payload.ensures

pub returns : goal.returns
unfolding both_number
returns c = c.check_payload-2.ensures ∙ goes_on _ c.in_ok-check_payload.ensures
