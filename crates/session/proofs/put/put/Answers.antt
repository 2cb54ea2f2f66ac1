-- `session::put::put` meets its contract: refused by its number, or done.
use mathlib.Core.Path.{ap, ◌∙◌}
use lib.IntN.{ℤ}
use mir.Syntax.{w16, w32}
use Rattle.arith.specs.Signed.{back, fits_by}
use Rattle.state.specs.Calls.{entry_given, put_of, put_done}
use Rattle.state.specs.Lent.{held}
use Rattle.state.specs.Numbers.{put_number}
use Rattle.state.proofs.Laws.Ready.{put_ready}
use Rattle.session.proofs.Made.{number_zero, when_refused, when_accepted}
use Rattle.session.proofs.put.put.Goals as goal

pub returns-in-Err-clause-made : goal.returns-in-Err-clause-made
unfolding put_of
returns-in-Err-clause-made c =
    let a = c.args in
    let said = c.in-Err.ensures ∙ ap (λ (t : ℤ). put_number a.s a.side a.block t c.sizes.result) (back w32 c.ranges.sad) in
    when_refused (put_number a.s a.side a.block a.sad) _ _ c.sizes.ensures _ _ _ _ _ said c.refused.ensures.number c.refused.ensures.session

pub put_ready-requires : goal.put_ready-requires
put_ready-requires c =
    let a = c.args in
    let f = c.ranges in
    let b = held a.buffers.now a.history.now in
    put_ready a.s a.side a.block _ b (number_zero (put_number a.s a.side a.block _) _ b c.sizes.ensures c.in_default.ensures)
    (record { x = fits_by (back w16 f.x) f.x; y = fits_by (back w16 f.y) f.y; sad = fits_by (back w32 f.sad) f.sad; luma = f.luma.fits })

pub returns-clause-made : goal.returns-clause-made
unfolding put_of
returns-clause-made c =
    let a = c.args in
    let f = c.ranges in
    let b = held a.buffers.now a.history.now in
    let said = c.in_default.ensures ∙ ap (λ (t : ℤ). put_number a.s a.side a.block t c.sizes.result) (back w32 f.sad) in
    when_accepted (put_number a.s a.side a.block a.sad) _ b c.sizes.ensures _ _ said
    _ _ _ _ c.accepted.ensures.number c.accepted.ensures.session
    (c.put_ready.ensures.made
    ∙ (λ i. put_done a.s a.side a.block (entry_given (back w16 f.x i) (back w16 f.y i) (back w32 f.sad i) a.luma) a.gesture b))
