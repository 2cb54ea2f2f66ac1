-- `maps::judge::judge_chunk` meets its contract: the scores that are judged are the blocks'.
use Rattle.std.proofs.Common.{◌≡◌, ℕ, ◌+◌, ◌<◌, List, length, get_or, ℤ, pos, ap, ◌∙◌, arith}
use Rattle.std.proofs.lemmas.Grind.{common_steps}
use Rattle.arith.specs.Tabulate.{tab}
use Rattle.arith.specs.Tabulate.Laws.{tab_same}
use Rattle.maps.specs.Map.{score_at, map_byte, map_at}
use Rattle.maps.specs.Class.{counts_by}
use Rattle.maps.specs.Class.Laws.{counts_same}
use Rattle.maps.proofs.Filled.{filled_value}
use Rattle.maps.proofs.judge.judge_chunk.Goals as goal

pub returns : goal.returns
unfolding map_at
returns c =
    let a = c.args in
    let score : ℕ → ℤ = λ j. score_at a.set.now a.averages.now (a.start + j) in
    let scores : List ℤ = c.score_each.new.scores in
    let n : length scores ≡ length a.map.now = grind (arith, common_steps) in
    let at : (j : ℕ) → j < length scores → get_or scores j (pos 0) ≡ score j = λ j h. filled_value (pos 0) score scores _ j c.score_each.ensures h in (
      c.judge_each.ensures.0 ∙ counts_same a.limits _ score (length scores) at ∙ ap (counts_by a.limits score) n,
      c.judge_each.ensures.1 ∙ tab_same _ _ (length scores) (λ j h. ap (map_byte a.limits) (at j h)) ∙ ap (tab (λ j. map_byte a.limits (score j))) n,
    )
