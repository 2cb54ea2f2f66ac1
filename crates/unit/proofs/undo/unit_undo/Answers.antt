-- `unit::undo::unit_undo` meets its contract: that of `undo`.
use Rattle.std.proofs.Common.{rules, sym, ap, ◌∙◌}
use Rattle.state.specs.Buffers.{out}
use Rattle.state.proofs.Ended.{ended}
use Rattle.unit.proofs.undo.unit_undo.Goals as goal

pub returns : goal.returns
returns c =
    let o = out c.run.result.number c.run.result.session in
    ap o (ended _ _ _ _ _ _ _ _ _ c.run.new.buffers (search rules) (search rules) (sym c.run.ensures.same_references.table) (search rules) (search rules) (search rules) (search rules) (search rules))
    ∙ c.run.ensures.made
