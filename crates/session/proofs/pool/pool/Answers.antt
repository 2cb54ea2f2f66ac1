-- `session::pool::pool` meets its contract: refused by its number, or done.
use Rattle.state.specs.Calls.{pool_of}
use Rattle.state.specs.Lent.{held}
use Rattle.state.specs.Numbers.{pool_number}
use Rattle.state.proofs.Laws.Ready.{pool_ready}
use Rattle.session.proofs.Made.{number_zero, when_refused, when_accepted}
use Rattle.session.proofs.pool.pool.Goals as goal

pub returns-in-Err-clause-made : goal.returns-in-Err-clause-made
unfolding pool_of
returns-in-Err-clause-made c =
    let a = c.args in
    when_refused (pool_number a.s a.first.now a.second.now) _ _ c.sizes.ensures _ _ _ _ _ c.in-Err.ensures c.refused.ensures.number c.refused.ensures.session

pub pool_ready-requires : goal.pool_ready-requires
pool_ready-requires c =
    let a = c.args in
    pool_ready _ _ _ _ (number_zero (pool_number a.s a.first.now a.second.now) _ (held a.buffers.now a.history.now) c.sizes.ensures c.in_default.ensures)

pub returns-clause-made : goal.returns-clause-made
unfolding pool_of
returns-clause-made c =
    let a = c.args in
    when_accepted (pool_number a.s a.first.now a.second.now) _ (held a.buffers.now a.history.now) c.sizes.ensures _ _ c.in_default.ensures
    _ _ _ _ c.accepted.ensures.number c.accepted.ensures.session c.pool_ready.ensures.made
