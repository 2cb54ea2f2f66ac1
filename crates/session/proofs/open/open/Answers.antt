-- `session::open::open` meets its contract: refused by its number, or opened.
use mathlib.Core.Path.{ap, ◌∙◌}
use lib.IntN.{ℤ}
use mir.Syntax.{w32}
use Rattle.arith.specs.Signed.{back}
use Rattle.state.specs.Calls.{open_of, open_done}
use Rattle.state.specs.Lent.{held}
use Rattle.state.specs.Numbers.{carried_number, open_number}
use Rattle.state.proofs.Laws.Ready.{carried_ready}
use Rattle.session.proofs.Made.{number_zero, when_refused, when_accepted}
use Rattle.session.proofs.open.open.Goals as goal

pub returns-in-Err-clause-made : goal.returns-in-Err-clause-made
unfolding open_of open_number
returns-in-Err-clause-made c =
    let a = c.args in
    let said = c.in-Err.ensures ∙ ap (λ (t : ℤ). carried_number a.shape a.side t c.sizes.result) (back w32 c.ranges.time) in
    when_refused (carried_number a.shape a.side a.time) _ _ c.sizes.ensures _ _ _ _ _ said c.refused.ensures.number (c.refused.ensures.session ∙ c.no_session.ensures)

pub open_ready-requires : goal.open_ready-requires
open_ready-requires c =
    let a = c.args in
    carried_ready a.shape a.side _ _ (number_zero (carried_number a.shape a.side _) _ (held a.buffers.now a.history.now) c.sizes.ensures c.in_default.ensures)

pub returns-clause-made : goal.returns-clause-made
unfolding open_of open_number
returns-clause-made c =
    let a = c.args in
    let b = held a.buffers.now a.history.now in
    let said = c.in_default.ensures ∙ ap (λ (t : ℤ). carried_number a.shape a.side t c.sizes.result) (back w32 c.ranges.time) in
    when_accepted (carried_number a.shape a.side a.time) _ b c.sizes.ensures _ _ said
    _ _ _ _ c.accepted.ensures.number c.accepted.ensures.session
    (c.open_ready.ensures.made ∙ ap (λ (t : ℤ). open_done a.shape a.side a.limits t b) (back w32 c.ranges.time))
