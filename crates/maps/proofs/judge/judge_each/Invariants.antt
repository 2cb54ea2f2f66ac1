-- `maps::judge::judge_each` meets its contract: the counts and the bytes are those of the first j scores.
use Rattle.std.proofs.Common.{◌≡◌, ℕ, get_or, pos}
use Rattle.arith.specs.Splice.{over}
use Rattle.arith.specs.Tabulate.{tab}
use Rattle.maps.specs.Map.{map_byte}
use Rattle.maps.specs.Class.{counts_by}
use Rattle.maps.proofs.judge.judge_each.Given as goal

abbrev pub invariant-loop-j : goal.invariant-loop-j
invariant-loop-j l = record {
  counts_so_far : l.counts ≡ counts_by l.limits (λ (x : ℕ). get_or l.scores x (pos 0)) l.j;
  map_so_far : l.map ≡ over (tab (λ (x : ℕ). map_byte l.limits (get_or l.scores x (pos 0))) l.j) l.initial.map;
}
