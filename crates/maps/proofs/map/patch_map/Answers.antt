-- `maps::map::patch_map` meets its contract: one byte is set, that of the score.
use Rattle.std.proofs.Common.{ℕ, set, ap, ◌∙◌, w32}
use Rattle.arith.specs.Signed.{read}
use Rattle.maps.specs.Map.{map_byte, map_at, map_patched}
use Rattle.maps.proofs.Laws.Map.{score_at_fits}
use Rattle.maps.proofs.map.patch_map.Goals as goal

pub returns : goal.returns
unfolding map_patched map_at
returns c =
    let a = c.args in
    let e = read w32 c.score_at-score.ensures (score_at_fits _ _ _) in
    (e, ap (λ (v : ℕ). set a.map.now a.block v) (c.map_byte.ensures ∙ ap (map_byte a.limits) e))
