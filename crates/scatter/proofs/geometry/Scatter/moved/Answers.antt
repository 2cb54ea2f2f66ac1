-- `scatter::geometry::Scatter::moved` meets its contract: time × v fits an i32 at the ends of both ranges, and the divisor is 256 × pel.
use Rattle.std.proofs.Common.{◌≡◌, ◌*◌, ◌<◌, ℤ, pos, ◌*ℤ◌, sym, ap, ◌∙◌, subst, arith, w16, w32, SFits, to_z, of_z}
use lib.Signed.{quot_z, nat_abs-le}
use Rattle.arith.specs.Integers.{up}
use Rattle.arith.specs.Signed.{read, fits_by, widened, quot_fits}
use Rattle.scatter.specs.declared.geometry.Scatter.{Scatter}
use Rattle.scatter.specs.Block.{t_of}
use Rattle.scatter.specs.Block.Laws.{travel_fits}
use Rattle.scatter.specs.Geometry.{Geometry}
use Rattle.scatter.specs.Geometry.Laws.{time_most, time_back, denom_is, denom_fits}
use Rattle.scatter.proofs.geometry.Scatter.moved.Goals as goal

module _ (g : Scatter) (v : ℤ) (r : Geometry g) (f : SFits w16 v) where
  time_v_is : to_z w32 (of_z w32 g.time) *ℤ to_z w32 (of_z w32 (to_z w16 (of_z w16 v))) ≡ g.time *ℤ v
  time_v_is = λ i. time_back r.timed i *ℤ widened w16 w32 tt f i

  time_v_fits : SFits w32 (g.time *ℤ v)
  time_v_fits = travel_fits g.time v (time_most r.timed) (nat_abs-le v f.sfits)

  divisor_is : to_z w32 (of_z w32 g.denom) ≡ pos (256 * up g.shape.pel)
  divisor_is = read w32 r.denom (denom_fits r.accepted) ∙ denom_is r.accepted

  quotient_is : quot_z (to_z w32 (of_z w32 (to_z w32 (of_z w32 g.time) *ℤ to_z w32 (of_z w32 (to_z w16 (of_z w16 v)))))) (to_z w32 (of_z w32 g.denom))
      ≡ quot_z (g.time *ℤ v) (pos (256 * up g.shape.pel))
  quotient_is = λ i. quot_z (read w32 time_v_is time_v_fits i) (divisor_is i)

  quotient_fits : SFits w32 (quot_z (g.time *ℤ v) (pos (256 * up g.shape.pel)))
  quotient_fits = quot_fits w32 (g.time *ℤ v) (256 * up g.shape.pel) time_v_fits

  moved_is : quot_z (g.time *ℤ v) (pos (256 * up g.shape.pel)) ≡ t_of g.shape g.time v
  unfolding t_of
  moved_is = ap (λ (z : ℤ). quot_z (g.time *ℤ v) z) (sym (denom_is r.accepted))

pub overflow_mul-result : goal.overflow_mul-result
overflow_mul-result c = fits_by (time_v_is c.args.self c.args.v c.requires c.ranges.v) (time_v_fits c.args.self c.args.v c.requires c.ranges.v)

pub nonzero_div-result : goal.nonzero_div-result
nonzero_div-result c =
    let g = c.args.self in
    let r = c.requires in (
      subst (λ (z : ℤ). 0 < of_z w32 z) (sym (r.denom ∙ denom_is r.accepted)) (omega (arith, r.accepted.pel_range.least)),
      fits_by (quotient_is g c.args.v r c.ranges.v) (quotient_fits g c.args.v r c.ranges.v),
    )

pub returns : goal.returns
returns c =
    let g = c.args.self in
    let r = c.requires in
    read w32 (quotient_is g c.args.v r c.ranges.v) (quotient_fits g c.args.v r c.ranges.v) ∙ moved_is g c.args.v r c.ranges.v
