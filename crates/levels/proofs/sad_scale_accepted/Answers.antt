-- `levels::sad_scale_accepted` meets its contract: two comparisons in turn.
use mathlib.Core.Path.{◌∙◌}
use mathlib.Core.Bool.{◌&&◌}
use lib.Ieee.{le}
use Rattle.arith.specs.Booleans.{by_test}
use Rattle.levels.specs.Level.{sad_scale_accepted, f65536}
use Rattle.levels.proofs.sad_scale_accepted.Goals as goal

pub returns-then-scale : goal.returns-then-scale
unfolding sad_scale_accepted
returns-then-scale c = by_test (λ t. t && le c.args.scale f65536) c.if-scale.true

pub returns-else-scale : goal.returns-else-scale
unfolding sad_scale_accepted
returns-else-scale c = c.if-scale.false ∙ by_test (λ t. t && le c.args.scale f65536) c.if-scale.false
