-- `unit::redo::unit_redo` meets its contract: that of `redo`.
use Rattle.std.proofs.Common.{rules, sym, ap, ◌∙◌}
use Rattle.state.specs.Buffers.{out}
use Rattle.state.proofs.Ended.{ended}
use Rattle.unit.proofs.redo.unit_redo.Goals as goal

pub returns : goal.returns
returns c =
    let o = out c.run.result.number c.run.result.session in
    ap o (ended _ _ _ _ _ _ _ _ _ c.run.new.buffers (search rules) (search rules) (sym c.run.ensures.same_references.table) (search rules) (search rules) (search rules) (search rules) (search rules))
    ∙ c.run.ensures.made
