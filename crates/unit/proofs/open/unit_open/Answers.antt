-- `unit::open::unit_open` meets its contract: that of `open`.
use Rattle.std.proofs.Common.{rules, sym, ap, ◌∙◌}
use lib.IntN.{ℤ}
use mir.Syntax.{w32}
use Rattle.arith.specs.Signed.{back}
use Rattle.state.specs.Buffers.{lent, out}
use Rattle.state.specs.Calls.{open_of}
use Rattle.state.proofs.Ended.{ended}
use Rattle.unit.proofs.open.unit_open.Goals as goal

pub returns : goal.returns
returns c =
    let a = c.args in
    let b = lent a.backward.now a.forward.now a.table.now a.grid.now a.xs.now a.ys.now a.averages.now a.map.now a.history.now in
    let o = out c.«open».result.number c.«open».result.session in
    ap o (ended _ _ _ _ _ _ _ _ _ c.«open».new.buffers (search rules) (search rules) (sym c.«open».ensures.same_references.table) (search rules) (search rules) (search rules) (search rules) (search rules))
    ∙ c.«open».ensures.made
    ∙ ap (λ (time : ℤ). open_of a.shape a.side a.limits time b) (back w32 c.ranges.time)
