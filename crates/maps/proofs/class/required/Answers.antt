-- `maps::class::required` meets its contract: the product wraps, and its quotient by 100 fits.
use Rattle.std.proofs.Common.{ℤ, pos, ◌*ℤ◌, ap, ◌∙◌, ap₂, arith, w32}
use lib.Signed.{quot_z}
use mir.ValLaws.{to_z_pos}
use Rattle.arith.specs.Signed.{back, read}
use Rattle.arith.specs.Wrap.{wrap32}
use Rattle.arith.specs.Wrap.Laws.{wrap_fits}
use Rattle.maps.specs.Class.{required_of}
use Rattle.maps.specs.Class.Laws.{required_fits}
use Rattle.maps.proofs.class.required.Goals as goal

pub returns : goal.returns
unfolding required_of
returns c =
    let factors = ap₂ (λ (a b : ℤ). wrap32 (a *ℤ b)) (back w32 c.ranges.blocks) (to_z_pos w32 c.args.counted (omega arith)) in
    let product = read w32 (c.wrapping_mul.ensures ∙ factors) (wrap_fits _) in
    read w32 (ap (λ (z : ℤ). quot_z z (pos 100)) product) (required_fits c.args.blocks c.args.counted)
