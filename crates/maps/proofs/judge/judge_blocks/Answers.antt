-- `maps::judge::judge_blocks` meets its contract: counts and bytes are those of the blocks before `start`.
use Rattle.std.proofs.Common.{◌≡◌, ℕ, ◌+◌, ◌-◌, ◌≤◌, take, drop, length, ap, ◌∙◌, arith, length-take, length-drop}
use Rattle.arith.specs.Filling.{fill_start}
use Rattle.arith.specs.Splice.{over}
use Rattle.arith.specs.Tabulate.{tab}
use Rattle.maps.specs.Map.{score_at, map_at}
use Rattle.maps.specs.Class.{counts_by}
use Rattle.maps.proofs.Filled.{filled_piece, filled_whole}
use Rattle.maps.proofs.Laws.Class.{none_counted, few_chunk, chunk_more}
use Rattle.maps.proofs.judge.judge_blocks.Goals as goal

pub loop-start-init : goal.loop-start-init
loop-start-init c = record { in_range = omega arith; counts_so_far = none_counted _ _ c.default-counts.ensures; map_so_far = fill_start _ _ }

pub plus-counts-requires : goal.plus-counts-requires
plus-counts-requires c =
    let k : ℕ = c.min-end.result - c.loop-start.start in
    let n : length (take k (drop c.loop-start.start c.loop-start.map)) ≤ length c.args.map.now - c.loop-start.start = simp (length-take, length-drop) (omega arith) in
    few_chunk c.args.limits (score_at c.args.set.now c.args.averages.now) c.loop-start.start _ c.loop-start.invariant.counts_so_far c.judge_chunk.ensures.0 (omega arith)

pub loop-start-preserved : goal.loop-start-preserved
loop-start-preserved c =
    let a = c.args in
    let l = c.loop-start in
    let k : ℕ = c.min-end.result - l.start in
    let n : length (take k (drop l.start l.map)) ≡ k = simp (length-take, length-drop) (omega arith) in
    let e : l.start + k ≡ l.start + 64 = omega arith in
    record {
      in_range = omega arith;
      counts_so_far =
          chunk_more a.limits (score_at a.set.now a.averages.now) l.start _ l.invariant.counts_so_far c.judge_chunk.ensures.0 c.plus-counts.ensures
          ∙ ap (counts_by a.limits (score_at a.set.now a.averages.now)) (ap (λ (j : ℕ). l.start + j) n ∙ e);
      map_so_far =
          filled_piece (map_at a.limits a.set.now a.averages.now) l.map a.map.now _ l.start k (omega arith) l.invariant.map_so_far c.judge_chunk.ensures.1
          ∙ ap (λ (j : ℕ). over (tab (map_at a.limits a.set.now a.averages.now) j) a.map.now) e;
    }

pub returns : goal.returns
returns c =
    let e : c.loop-start.start ≡ length c.args.map.now = omega arith in (
      rw (← e) c.loop-start.invariant.counts_so_far,
      filled_whole 0 (map_at c.args.limits c.args.set.now c.args.averages.now) c.loop-start.map c.args.map.now c.loop-start.start e c.loop-start.invariant.map_so_far,
    )

pub returns-2 : goal.returns-2
returns-2 c =
    let a = c.args in
    let l = c.loop-start in
    let k : ℕ = c.min-end.result - l.start in
    let n : length (take k (drop l.start l.map)) ≡ k = simp (length-take, length-drop) (omega arith) in
    let e : l.start + k ≡ length a.map.now = omega arith in (
      chunk_more a.limits (score_at a.set.now a.averages.now) l.start _ l.invariant.counts_so_far c.judge_chunk.ensures.0 c.plus-counts.ensures
          ∙ ap (counts_by a.limits (score_at a.set.now a.averages.now)) (ap (λ (j : ℕ). l.start + j) n ∙ e),
      filled_whole 0 (map_at a.limits a.set.now a.averages.now) _ a.map.now (l.start + k) e
          (filled_piece (map_at a.limits a.set.now a.averages.now) l.map a.map.now _ l.start k (omega arith) l.invariant.map_so_far c.judge_chunk.ensures.1),
    )
