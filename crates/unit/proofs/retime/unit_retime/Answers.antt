-- `unit::retime::unit_retime` meets its contract: that of `retime`.
use mathlib.Core.Path.{ap, ◌∙◌}
use lib.IntN.{ℤ}
use mir.Syntax.{w32}
use Rattle.arith.specs.Signed.{back}
use Rattle.state.specs.Buffers.{lent}
use Rattle.state.specs.Calls.{retime_of}
use Rattle.unit.proofs.retime.unit_retime.Goals as goal

pub retime-requires : goal.retime-requires
retime-requires c = tt

pub shape_of-grid : goal.shape_of-grid
shape_of-grid c = c.retime.auto.grid

pub returns : goal.returns
returns c =
    let a = c.args in
    let b = lent a.backward.now a.forward.now a.table.now a.grid.now a.xs.now a.ys.now a.averages.now a.map.now a.history.now in
    c.retime.ensures ∙ ap (λ (time : ℤ). retime_of a.session time b) (back w32 c.ranges.time)
