-- `maps::map::score` meets its contract: the product wraps; the divisor is from 1 to 255, so that every quotient fits.
use Rattle.std.proofs.Common.{ℤ, pos, ◌*ℤ◌, ap, ◌∙◌, ap₂, arith, w32}
use lib.Signed.{quot_z}
use mir.ValLaws.{to_z_pos}
use Rattle.arith.specs.Signed.{back, read}
use Rattle.arith.specs.Wrap.{wrap32}
use Rattle.arith.specs.Wrap.Laws.{wrap_fits}
use Rattle.maps.specs.Map.{score_of}
use Rattle.maps.proofs.Laws.Map.{score_fits}
use Rattle.maps.proofs.map.score.Goals as goal

pub returns : goal.returns
unfolding score_of
returns c =
    let product = read w32 (c.wrapping_mul-product.ensures ∙ ap (λ (z : ℤ). wrap32 (z *ℤ pos 255)) (back w32 c.ranges.sad)) (wrap_fits _) in
    let divisor = to_z_pos w32 c.max-divisor.result (omega arith) ∙ ap pos c.max-divisor.ensures in
    read w32 (ap₂ quot_z product divisor) (score_fits c.args.sad c.args.average)
