-- `runs::run_ahead` meets its contract: the gesture k slots up from the line is number k of those ahead of it.
use Rattle.std.proofs.Common.{rules, ◌≡◌, ◌+◌, ◌∙◌, arith}
use Rattle.history.specs.History.{gesture_at}
use Rattle.runs.specs.Runs.{IsRead}
use Rattle.runs.specs.Slots.{gestures_ahead, run_ahead}
use Rattle.runs.proofs.Laws.Read.{ahead_at}
use Rattle.runs.proofs.Laws.Slots.{length_ahead}
use Rattle.runs.proofs.run_ahead.Goals as goal

pub returns : goal.returns
unfolding run_ahead IsRead
returns c =
    let h = c.args.history.now in
    let past = c.args.past in
    let future = c.args.future in
    c.first_run.ensures (gestures_ahead h past future) (length_ahead h past future)
    (λ k r m p. let e : r ≡ gesture_at h (past + k) = search rules in e ∙ ahead_at h past future k (omega (arith, length_ahead h past future)))
