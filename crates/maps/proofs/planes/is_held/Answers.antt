-- `maps::planes::is_held` meets its contract: what `<=` answers is the definition's order.
use Rattle.std.proofs.Common.{◌≡◌, ◌&&◌, ℤ, pos, negsuc, refl, arith, w16}
use Rattle.std.proofs.lemmas.Bool.Decides.{nat_tests}
use Rattle.std.specs.Int.Signed.{le_z}
use Rattle.std.specs.Ordering.{int_cmp, is_le}
use Rattle.arith.specs.Signed.{back}
use Rattle.maps.specs.Planes.{held}
use Rattle.maps.proofs.planes.is_held.Goals as goal

at_most : (a b : ℤ) → is_le (int_cmp a b) ≡ le_z a b
at_most (pos m) (pos n) = grind (arith, nat_tests)
at_most (pos m) (negsuc n) = refl
at_most (negsuc m) (pos n) = refl
at_most (negsuc m) (negsuc n) = grind (arith, nat_tests)

pub returns : goal.returns
unfolding held
returns c =
    let r = c.new.ensures in
    rw (c.contains.ensures.value, r.start, r.end, r.exhausted, back w16 c.ranges.v)
    (λ i. at_most (negsuc 1022) c.args.v i && at_most c.args.v (pos 1023) i)
