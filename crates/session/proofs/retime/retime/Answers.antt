-- `session::retime::retime` meets its contract: refused by its number, or the grid of the time given.
use mathlib.Core.Path.{ap, ◌∙◌}
use lib.IntN.{ℤ}
use mir.Syntax.{w32}
use Rattle.arith.specs.Signed.{back}
use Rattle.state.specs.Buffers.{lent}
use Rattle.state.specs.Calls.{with_grid, retime_of}
use Rattle.state.specs.Numbers.{retime_number}
use Rattle.state.proofs.Laws.Ready.{retime_ready}
use Rattle.session.proofs.Made.{number_zero, when_refused, when_accepted, retime_made}
use Rattle.session.proofs.retime.retime.Goals as goal

pub returns-in-Err : goal.returns-in-Err
unfolding retime_of
returns-in-Err c =
    let a = c.args in
    let said = c.in-Err.ensures ∙ ap (λ (t : ℤ). retime_number a.s t c.sizes_of-sizes.result) (back w32 c.ranges.time) in
    when_refused (retime_number a.s a.time) _ _ c.sizes_of-sizes.ensures _ _ _ _ _ said c.refused.ensures.number c.refused.ensures.session

pub fill_grid-requires : goal.fill_grid-requires
fill_grid-requires c =
    let a = c.args in
    let b = lent a.backward.now a.forward.now a.table.now a.grid.now a.xs.now a.ys.now a.averages.now a.map.now a.history.now in
    let r = retime_ready a.s _ _ (number_zero (retime_number a.s _) _ b c.sizes_of-sizes.ensures c.in_default.ensures) in
    (r.accepted, r.timed, r.room.backward, r.room.forward, r.room.grid)

pub returns : goal.returns
unfolding retime_of with_grid
returns c =
    let a = c.args in
    let b = lent a.backward.now a.forward.now a.table.now a.grid.now a.xs.now a.ys.now a.averages.now a.map.now a.history.now in
    let said = c.in_default.ensures ∙ ap (λ (t : ℤ). retime_number a.s t c.sizes_of-sizes.result) (back w32 c.ranges.time) in
    when_accepted (retime_number a.s a.time) _ b c.sizes_of-sizes.ensures _ _ said
    _ _ _ _ c.accepted.ensures.number c.accepted.ensures.session
    (retime_made a.s c.retimed.result a.time _ b _ c.retimed.ensures (back w32 c.ranges.time) c.fill_grid.ensures)
