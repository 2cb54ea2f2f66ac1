-- `session::take::take` meets its contract: kept as it was, or renewed.
use mathlib.Core.Path.{sym, ap, ◌∙◌}
use Prim.Native.Nat.{ℕ}
use Rattle.state.specs.Buffers.{out}
use Rattle.state.specs.Lent.{held}
use Rattle.state.specs.Numbers.{take_number}
use Rattle.session.proofs.Made.{take_kept, take_able, take_accepted}
use Rattle.session.proofs.take.take.Goals as goal

pub returns-then-not-is_renewed-clause-made : goal.returns-then-not-is_renewed-clause-made
returns-then-not-is_renewed-clause-made c =
    let a = c.args in
    let b = held a.buffers.now a.history.now in
    ap (λ (n : ℕ). out n a.s b) c.number-number.ensures
    ∙ take_kept a.s a.payload.now b _ (c.check_take-outcome.ensures ∙ ap (take_number a.s a.payload.now) c.sizes.ensures)
    (sym c.is_renewed.ensures ∙ c.if-not-is_renewed.true)

pub take_ready-session-requires : goal.take_ready-session-requires
take_ready-session-requires c =
    let a = c.args in
    take_able a.s a.payload.now (held a.buffers.now a.history.now) _ (c.check_take-outcome.ensures ∙ ap (take_number a.s a.payload.now) c.sizes.ensures)
    (sym c.is_renewed.ensures ∙ c.if-not-is_renewed.false)

pub returns-clause-made : goal.returns-clause-made
returns-clause-made c =
    let a = c.args in
    ap (λ (n : ℕ). out n c.take_ready-session.result (held c.take_ready-session.new.buffers c.take_ready-session.new.history)) c.number-number.ensures
    ∙ take_accepted a.s a.payload.now (held a.buffers.now a.history.now) _ (c.check_take-outcome.ensures ∙ ap (take_number a.s a.payload.now) c.sizes.ensures)
    (sym c.is_renewed.ensures ∙ c.if-not-is_renewed.false) _ c.take_ready-session.ensures.made
