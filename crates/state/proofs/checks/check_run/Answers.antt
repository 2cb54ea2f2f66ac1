-- `state::checks::check_run` meets its contract: past and future lie in the history, and the run among them.
use Rattle.std.specs.Prelude.{◌≡◌}
use Rattle.std.proofs.Common.{sym, arith}
use Rattle.state.specs.Steps.{run_length, run_start}
use Rattle.state.proofs.Laws.Ready.{steps_accepted, steps_room, run_most, run_below}
use Rattle.state.proofs.checks.check_run.Goals as goal

pub run_length-n-requires : goal.run_length-n-requires
run_length-n-requires c =
    omega (arith, steps_room c.args.back c.args.s c.args.z (sym c.in_ok-check_steps.ensures), c.requires)

pub run_start-k-requires : goal.run_start-k-requires
run_start-k-requires c =
    let a = c.args in
    let n : c.run_length-n.result ≡ run_length a.back a.s a.history.now = c.run_length-n.ensures in
    omega (arith, run_most a.back a.s a.history.now)

pub slots_good-requires : goal.slots_good-requires
slots_good-requires c =
    let a = c.args in
    let passed = sym c.in_ok-check_steps.ensures in
    let n : c.run_length-n.result ≡ run_length a.back a.s a.history.now = c.run_length-n.ensures in
    let k : c.run_start-k.result ≡ run_start a.back a.s c.run_length-n.result = c.run_start-k.ensures in (
      steps_accepted a.back a.s a.z passed,
      omega (arith, run_below a.back a.s c.run_length-n.result (omega (arith, run_most a.back a.s a.history.now)), steps_room a.back a.s a.z passed, c.requires),
    )
