-- What `fill_repeated` has filled is not empty, and grows till no byte is left.
use Rattle.std.proofs.Common.{length, ◌-◌, ◌<◌}
use Rattle.replay.proofs.given.fill_repeated.Given as goal

abbrev pub invariant-loop-filled : goal.invariant-loop-filled
invariant-loop-filled l = 0 < l.filled

abbrev pub decreases-loop-filled : goal.decreases-loop-filled
decreases-loop-filled l = length l.initial.space - l.filled
