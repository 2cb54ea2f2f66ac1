-- `scatter::geometry::is_time` meets its contract: one range.
use mathlib.Core.Path.{◌≡◌, ap, ◌∙◌}
use lib.IntN.{pos, negsuc}
use mir.Syntax.{w32}
use mir.Val.{to_z, of_z}
use Rattle.arith.specs.Integers.{in_range}
use Rattle.arith.specs.Signed.{back}
use Rattle.scatter.specs.Geometry.{time_accepted}
use Rattle.scatter.proofs.geometry.is_time.Goals as goal

pub returns : goal.returns
unfolding time_accepted
returns c =
    let t = c.args.time in
    let e : c.in_range.result ≡ in_range (negsuc 65534) (pos 65535) (to_z w32 (of_z w32 t)) = c.in_range.ensures in
    e ∙ ap (in_range (negsuc 65534) (pos 65535)) (back w32 c.ranges.time)
