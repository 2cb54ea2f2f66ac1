-- `maps::map::score_at` meets its contract: the score of a sad that is read.
use Rattle.std.proofs.Common.{get_or, ℤ, ap, ◌∙◌, w32}
use Rattle.arith.specs.Signed.{read, answered}
use Rattle.maps.specs.Map.{score_of, score_at}
use Rattle.maps.proofs.Laws.Map.{score_fits}
use Rattle.maps.proofs.map.score_at.Goals as goal

pub returns : goal.returns
unfolding score_at
returns c =
    read w32
    (c.score.ensures
    ∙ ap (λ (z : ℤ). score_of z (get_or c.args.averages.now c.args.i 0))
    (answered w32 c.sad_at.type_inv c.sad_at.ensures))
    (score_fits _ _)
