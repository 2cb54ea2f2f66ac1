-- `runs::first_run` meets its contract. The loop's invariant: the first k gestures are the first one.
use Rattle.std.proofs.Common.{ℕ, ◌<◌}
use Rattle.runs.proofs.first_run.Given as goal

abbrev pub invariant-loop-k : goal.invariant-loop-k
invariant-loop-k g l = (j : ℕ) → j < l.k → goal.F-post g l.gesture_at j l.first
