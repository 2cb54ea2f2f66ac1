-- `replay` counts within its numbers: no more cases than turns, and no more differ than are counted.
use Rattle.std.proofs.Common.{◌≤◌, ◌<◌}
use Rattle.replay.proofs.replay.Given as goal

abbrev pub invariant-loop-turn : goal.invariant-loop-turn
invariant-loop-turn g l = (l.differences ≤ l.cases) × (l.cases ≤ l.turn) × (l.turn ≤ l.count) × (l.count < 4294967296)
