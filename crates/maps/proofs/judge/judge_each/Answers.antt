-- `maps::judge::judge_each` meets its contract: the counts and the bytes are those of the first j scores.
use Rattle.std.proofs.Common.{◌≡◌, ℕ, length, get_or, ℤ, pos, ap, ◌∙◌, arith, rules, w32}
use Rattle.arith.specs.Filling.{fill_start, fill_next}
use Rattle.arith.specs.Signed.{back}
use Rattle.maps.specs.Map.{map_byte}
use Rattle.maps.specs.Class.{weight_of}
use Rattle.maps.proofs.Filled.{filled_whole}
use Rattle.maps.proofs.Laws.Class.{none_counted, few_more, one_more}
use Rattle.maps.proofs.judge.judge_each.Goals as goal

pub loop-j-init : goal.loop-j-init
loop-j-init c = record { counts_so_far = none_counted _ _ c.default-counts.ensures; map_so_far = fill_start _ _ }

pub plus-counts-requires : goal.plus-counts-requires
plus-counts-requires c =
    let a = c.args in
    let score : ℕ → ℤ = λ x. get_or a.scores.now x (pos 0) in
    few_more a.limits score c.loop-j.j c.loop-j.invariant.counts_so_far (c.weight.ensures ∙ ap (weight_of a.limits) (back w32 {z = score c.loop-j.j} (search rules))) (omega arith)

pub loop-j-preserved : goal.loop-j-preserved
loop-j-preserved c =
    let a = c.args in
    let score : ℕ → ℤ = λ x. get_or a.scores.now x (pos 0) in
    record {
      counts_so_far = one_more a.limits score c.loop-j.j c.loop-j.invariant.counts_so_far (c.weight.ensures ∙ ap (weight_of a.limits) (back w32 {z = score c.loop-j.j} (search rules))) c.plus-counts.ensures;
      map_so_far =
          fill_next (λ (x : ℕ). map_byte a.limits (score x)) c.loop-j.map a.map.now c.loop-j.j _ (omega arith)
          (c.map_byte.ensures ∙ ap (map_byte a.limits) (back w32 {z = score c.loop-j.j} (search rules))) c.loop-j.invariant.map_so_far;
    }

pub returns : goal.returns
returns c =
    let a = c.args in
    let e : c.loop-j.j ≡ length a.scores.now = omega arith in (
      rw (← e) c.loop-j.invariant.counts_so_far,
      rw c.requires.1 (filled_whole 0 (λ (x : ℕ). map_byte a.limits (get_or a.scores.now x (pos 0))) c.loop-j.map a.map.now c.loop-j.j (omega arith) c.loop-j.invariant.map_so_far),
    )
