-- `levels::cover_accepted` meets its contract: one range.
use mathlib.Core.Path.{ap, ◌∙◌}
use lib.IntN.{pos}
use mir.Syntax.{w32}
use Rattle.arith.specs.Integers.{in_range}
use Rattle.arith.specs.Signed.{back}
use Rattle.levels.specs.Level.{cover_accepted}
use Rattle.levels.proofs.cover_accepted.Goals as goal

pub returns : goal.returns
unfolding cover_accepted
returns c = c.in_range.ensures ∙ ap (in_range (pos 0) (pos 1000)) (back w32 c.ranges.cover)
