-- `pooling::words::word_at` meets its contract: vector and extra, four bytes each.
use mathlib.Core.Path.{◌∙◌}
use mathlib.Core.List.{◌++◌}
use Prim.Native.Nat.{ℕ, ◌*◌}
use Rattle.pooling.specs.Words.Laws.{eight_from, pair_again, sad_again}
use Rattle.pooling.proofs.words.word_at.Goals as goal

pub returns : goal.returns
returns c =
    let l = c.args.part.now in
    let at : ℕ = 8 * c.args.i in
    let v = c.four_at-vector.result in
    let e = c.four_at-extra.result in
    let h = c.four_at-vector.type_inv in (
      pair_again v e h ∙ (λ i. c.four_at-vector.ensures.0 i ++ c.four_at-extra.ensures.0 i) ∙ eight_from l at,
      sad_again v e h ∙ c.four_at-extra.ensures.1,
    )
