-- `runs::run_back` meets its contract: the gesture k slots down from the line is number k of those behind it.
use Rattle.std.proofs.Common.{rules, ◌≡◌, ◌-◌, ◌∙◌, arith}
use Rattle.history.specs.History.{gesture_at}
use Rattle.runs.specs.Runs.{IsRead}
use Rattle.runs.specs.Slots.{gestures_back, run_back}
use Rattle.runs.proofs.Laws.Read.{back_at}
use Rattle.runs.proofs.Laws.Slots.{length_back}
use Rattle.runs.proofs.run_back.Goals as goal

pub returns : goal.returns
unfolding run_back IsRead
returns c =
    let h = c.args.history.now in
    let past = c.args.past in
    c.first_run.ensures (gestures_back h past) (length_back h past)
    (λ k r m p. let e : r ≡ gesture_at h (past - 1 - k) = search rules in e ∙ back_at h past k (omega (arith, length_back h past)))
