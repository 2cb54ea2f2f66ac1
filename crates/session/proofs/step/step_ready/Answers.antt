-- `session::step::step_ready` meets its contract: the step of its slot, the entry that is used stored and patched.
use mathlib.Core.Path.{◌≡◌, ap, ◌∙◌}
use mathlib.Core.Bool.{cond}
use Prim.Native.Nat.{◌+◌}
use native.Mathlib.Omega.{arith}
use lib.ListN.{length}
use Rattle.history.specs.History.{step_at}
use Rattle.history.specs.History.Laws.{slot_within, counts_most}
use Rattle.session.proofs.Made.{step_made}
use Rattle.state.proofs.Laws.Ready.{slot_below, step_edit}
use Rattle.state.specs.Buffers.{State}
use Rattle.state.specs.Calls.{with_history}
use Rattle.state.specs.Lent.{held}
use Rattle.state.specs.declared.session.Sizes.{Sizes}
use Rattle.state.proofs.Laws.Calls.{edited_past, edited_future}
use Rattle.state.specs.Steps.{steps_of, slot_used}
use Rattle.session.proofs.step.step_ready.Goals as goal

pub slot_used-k-requires : goal.slot_used-k-requires
slot_used-k-requires c = c.requires.some

pub read-p-requires : goal.read-p-requires
read-p-requires c =
    let a = c.args in
    let k : c.slot_used-k.result ≡ slot_used a.back a.s = c.slot_used-k.ensures in
    slot_within (length a.history.now) (a.s.past + a.s.future) _ c.requires.counts (omega (arith, slot_below a.back a.s c.requires.some))

pub edit-edited-requires : goal.edit-edited-requires
unfolding with_history
edit-edited-requires c =
    let a = c.args in
    step_edit a.back a.s (held a.buffers.now a.history.now) _ _ c.requires (c.read-p.ensures ∙ ap (step_at a.history.now) c.slot_used-k.ensures) c.entry_used-v.ensures (λ k. (c.type_inv.history k).fits)

pub step_moved-requires : goal.step_moved-requires
step_moved-requires c =
    let a = c.args in
    let e = c.edit-edited.ensures.edited in
    let past : c.edit-edited.result.session.past ≡ a.s.past = ap (λ (t : State). t.session.past) e ∙ edited_past _ _ _ _ _ in
    let future : c.edit-edited.result.session.future ≡ a.s.future = ap (λ (t : State). t.session.future) e ∙ edited_future _ _ _ _ _ in
    let steps : steps_of a.back c.edit-edited.result.session ≡ steps_of a.back a.s = λ i. cond a.back (past i) (future i) in
    (omega (arith, c.requires.some), omega (arith, counts_most _ _ c.requires.counts))

pub returns-clause-same_sizes : goal.returns-clause-same_sizes
returns-clause-same_sizes c = ap (λ (z : Sizes). record z { history = length c.args.history.now }) c.edit-edited.ensures.same_sizes

pub returns-clause-made : goal.returns-clause-made
unfolding with_history
returns-clause-made c =
    let a = c.args in
    step_made a.back a.s _ _ (held a.buffers.now a.history.now) _ c.read-p.result c.entry_used-v.result _ c.slot_used-k.ensures c.read-p.ensures c.entry_used-v.ensures c.edit-edited.ensures.edited c.step_moved.ensures
