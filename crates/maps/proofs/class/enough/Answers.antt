-- `maps::class::enough` meets its contract: a count below 2^31 is the i32 that is compared.
use Rattle.std.proofs.Common.{ap₂, arith, w32}
use lib.Signed.{le_z}
use mir.ValLaws.{to_z_pos}
use Rattle.arith.specs.Signed.{back}
use Rattle.maps.proofs.class.enough.Goals as goal

pub returns : goal.returns
returns c = ap₂ le_z (back w32 c.ranges.r) (to_z_pos w32 c.args.count (omega (arith, c.requires)))
