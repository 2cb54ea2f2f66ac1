-- `unit::put::unit_put` meets its contract: that of `put`.
use Rattle.std.proofs.Common.{rules, sym, ap, ◌∙◌}
use mir.Syntax.{w16, w32}
use Rattle.arith.specs.Signed.{back}
use Rattle.state.specs.Buffers.{lent, out}
use Rattle.state.specs.Calls.{put_of, entry_given}
use Rattle.state.proofs.Ended.{ended}
use Rattle.unit.proofs.put.unit_put.Goals as goal

pub returns : goal.returns
returns c =
    let a = c.args in
    let b = lent a.backward.now a.forward.now a.table.now a.grid.now a.xs.now a.ys.now a.averages.now a.map.now a.history.now in
    let o = out c.put.result.number c.put.result.session in
    ap o (ended _ _ _ _ _ _ _ _ _ c.put.new.buffers (search rules) (search rules) (sym c.put.ensures.same_references.table) (search rules) (search rules) (search rules) (search rules) (search rules))
    ∙ c.put.ensures.made
    ∙ (λ i. put_of a.session a.side a.block (entry_given (back w16 c.ranges.x i) (back w16 c.ranges.y i) (back w32 c.ranges.sad i) a.luma) a.gesture b)
