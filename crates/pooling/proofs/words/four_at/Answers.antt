-- `pooling::words::four_at` meets its contract: each of the four is a byte.
use mathlib.Core.Path.{◌∙◌}
use Prim.Native.Nat.{◌+◌, ◌*◌}
use mathlib.Core.List.{[], ◌∷◌}
use Rattle.record.specs.Bytes.{u24_at}
use Rattle.record.specs.Bytes.Laws.{four_bytes, low_three}
use Rattle.pooling.specs.Words.Laws.{four_from}
use Rattle.pooling.proofs.words.four_at.Goals as goal

pub returns : goal.returns
unfolding u24_at
returns c =
    let l = c.args.part.now in
    let at = c.args.at in
    let a = c.wide-a.ensures in
    let b = c.wide-b.ensures in
    let c₁ = c.wide-c.ensures in
    let d = c.wide-d.ensures in (
      four_bytes _ _ _ _ a.1 b.1 c₁.1 d.1 ∙ (λ i. a.0 i ∷ b.0 i ∷ c₁.0 i ∷ d.0 i ∷ []) ∙ four_from l at,
      low_three _ _ _ _ a.1 b.1 c₁.1 d.1 ∙ (λ i. a.0 i + 256 * b.0 i + 65536 * c₁.0 i),
    )
