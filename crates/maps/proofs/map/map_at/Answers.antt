-- `maps::map::map_at` meets its contract: the byte of a block's score.
use Rattle.std.proofs.Common.{ap, ◌∙◌, w32}
use Rattle.arith.specs.Signed.{read}
use Rattle.maps.specs.Map.{map_byte, map_at}
use Rattle.maps.proofs.Laws.Map.{score_at_fits}
use Rattle.maps.proofs.map.map_at.Goals as goal

pub returns : goal.returns
unfolding map_at
returns c = c.map_byte.ensures ∙ ap (map_byte c.args.limits) (read w32 c.score_at.ensures (score_at_fits _ _ _))
