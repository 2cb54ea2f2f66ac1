-- `session::run::run` meets its contract: refused by its number, or done.
use mathlib.Core.Path.{ap}
use Rattle.state.specs.declared.session.Sizes.{Sizes}
use Rattle.state.specs.Calls.{run_of}
use Rattle.state.specs.Lent.{held}
use Rattle.state.specs.Numbers.{run_number}
use Rattle.state.proofs.Laws.Ready.{run_ready}
use Rattle.session.proofs.Made.{number_zero, when_refused, when_accepted}
use Rattle.session.proofs.run.run.Goals as goal

pub check_run-requires : goal.check_run-requires
check_run-requires c = ap (λ (z : Sizes). z.history) c.sizes.ensures

pub returns-in-Err-clause-made : goal.returns-in-Err-clause-made
unfolding run_of
returns-in-Err-clause-made c =
    let a = c.args in
    when_refused (run_number a.back a.s a.history.now) _ _ c.sizes.ensures _ _ _ _ _ c.in-Err.ensures c.refused.ensures.number c.refused.ensures.session

pub run_ready-requires : goal.run_ready-requires
run_ready-requires c =
    let a = c.args in
    let b = held a.buffers.now a.history.now in
    run_ready a.back a.s b (number_zero (run_number a.back a.s a.history.now) _ b c.sizes.ensures c.in_default.ensures)

pub returns-clause-made : goal.returns-clause-made
unfolding run_of
returns-clause-made c =
    let a = c.args in
    when_accepted (run_number a.back a.s a.history.now) _ (held a.buffers.now a.history.now) c.sizes.ensures _ _ c.in_default.ensures
    _ _ _ _ c.accepted.ensures.number c.accepted.ensures.session c.run_ready.ensures.made
