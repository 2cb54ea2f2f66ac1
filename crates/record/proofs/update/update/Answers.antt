-- `record::update::update` meets its contract: by 2 or 3 nothing is written; else both sets are as the payload's number says.
use Prim.Native.Nat.{ℕ}
use mathlib.Core.Path.{sym, ap, ◌∙◌}
use mathlib.Core.Logic.{inl, inr, ⊎_elim}
use Rattle.record.specs.Checks.Laws.{sets_ready, sets_refused}
use Rattle.record.specs.Refusals.Laws.{code_positive, handed_on, stops, goes_on}
use Rattle.record.specs.Update.{updated, update_of, update_number, backward_after, forward_after}
use Rattle.record.specs.Update.Laws.{update_refused}
use Rattle.record.proofs.update.update.Goals as goal

pub returns-in_err-check_sets : goal.returns-in_err-check_sets
unfolding update_number
returns-in_err-check_sets c =
    let a = c.args in
    let r = c.in_err-check_sets.field-0.0 in
    let n = handed_on _ r c.from_residual.ensures.1 in
    let e = sym c.in_err-check_sets.ensures in
    update_refused _ _ a.backward.now a.forward.now _ (n ∙ stops r _ c.in_err-check_sets.ensures)
    (⊎_elim (λ q. inl (n ∙ sym e ∙ q)) (λ q. inr (n ∙ sym e ∙ q)) (sets_refused _ _ _ (λ q. code_positive r (sym e ∙ q))))

pub check_payload-outcome-requires : goal.check_payload-outcome-requires
check_payload-outcome-requires c = (sets_ready _ _ _ (sym c.in_ok-check_sets.ensures)).accepted

pub take_backward-requires : goal.take_backward-requires
take_backward-requires c = let r = sets_ready _ _ _ (sym c.in_ok-check_sets.ensures) in (r.accepted, r.backward_room, c.check_payload-outcome.ensures)

pub take_forward-requires : goal.take_forward-requires
take_forward-requires c = let r = sets_ready _ _ _ (sym c.in_ok-check_sets.ensures) in (r.accepted, r.forward_room, c.check_payload-outcome.ensures)

pub returns : goal.returns
unfolding update_of update_number
returns c =
    let a = c.args in
    let p = a.payload.now in
    let b = a.backward.now in
    let f = a.forward.now in
    let e = c.check_payload-outcome.ensures ∙ goes_on _ c.in_ok-check_sets.ensures in
    λ i. updated (e i) ((c.take_backward.ensures ∙ ap (λ (n : ℕ). backward_after a.shape p n b) e) i) ((c.take_forward.ensures ∙ ap (λ (n : ℕ). forward_after a.shape p n f) e) i)
