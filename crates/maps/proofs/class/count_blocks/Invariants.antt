-- `maps::class::count_blocks` meets its contract: the counts are those of the first i blocks.
use Rattle.std.proofs.Common.{◌≡◌}
use Rattle.maps.specs.Map.{score_at}
use Rattle.maps.specs.Class.{counts_by}
use Rattle.maps.proofs.class.count_blocks.Given as goal

abbrev pub invariant-loop-i : goal.invariant-loop-i
invariant-loop-i l = l.counts ≡ counts_by l.limits (score_at l.set l.averages) l.i
