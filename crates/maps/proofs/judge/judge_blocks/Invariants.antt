-- `maps::judge::judge_blocks` meets its contract: counts and bytes are those of the blocks before `start`.
use Rattle.std.proofs.Common.{◌≡◌, ◌≤◌, length}
use Rattle.arith.specs.Splice.{over}
use Rattle.arith.specs.Tabulate.{tab}
use Rattle.maps.specs.Map.{score_at, map_at}
use Rattle.maps.specs.Class.{counts_by}
use Rattle.maps.proofs.judge.judge_blocks.Given as goal

abbrev pub invariant-loop-start : goal.invariant-loop-start
invariant-loop-start l = record {
  in_range : l.start ≤ length l.initial.map;
  counts_so_far : l.counts ≡ counts_by l.limits (score_at l.set l.averages) l.start;
  map_so_far : l.map ≡ over (tab (map_at l.limits l.set l.averages) l.start) l.initial.map;
}
