-- `runs::first_run` meets its contract. The loop's invariant: the first k gestures are the first one.
use Rattle.std.proofs.Common.{arith, sym, ◌∙◌}
use Rattle.runs.specs.Runs.{IsRead}
use Rattle.runs.proofs.Laws.Read.{first_none, first_read}
use Rattle.runs.proofs.first_run.Goals as goal

pub returns-then-n-eq0 : goal.returns-then-n-eq0
returns-then-n-eq0 g c = λ l e r. first_none l (e ∙ c.if-n-eq0.true)

pub returns-then-gesture_at-first : goal.returns-then-gesture_at-first
unfolding IsRead
returns-then-gesture_at-first g c =
    λ l e r.
    first_read l c.gesture_at-first.result c.loop-k.k (omega arith) (omega arith) (λ j m. sym (r j _ (omega arith) (c.loop-k.invariant j m)))
    (λ m q. c.if-gesture_at-first.true (r c.loop-k.k _ m c.gesture_at.ensures ∙ q))

pub returns : goal.returns
unfolding IsRead
returns g c =
    λ l e r.
    first_read l c.gesture_at-first.result c.args.n (omega arith) (omega arith) (λ j m. sym (r j _ (omega arith) (c.loop-k.invariant j (omega arith))))
    (λ m q. omega arith)
