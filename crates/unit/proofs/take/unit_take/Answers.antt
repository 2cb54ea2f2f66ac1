-- `unit::take::unit_take` meets its contract: that of `take`, and the payload as it was.
use Rattle.std.proofs.Common.{rules, sym, ap, ◌∙◌, [], ◌∷◌}
use Rattle.state.specs.Buffers.{Out, out}
use Rattle.state.proofs.Ended.{ended}
use Rattle.unit.specs.Answers.{kept}
use Rattle.unit.proofs.take.unit_take.Goals as goal

pub returns : goal.returns
returns c =
    let o = out c.take.result.number c.take.result.session in
    ap (λ (o : Out). kept o (c.args.payload.now ∷ []))
    (ap o (ended _ _ _ _ _ _ _ _ _ c.take.new.buffers (search rules) (search rules) (sym c.take.ensures.same_references.table) (search rules) (search rules) (search rules) (search rules) (search rules))
    ∙ c.take.ensures.made)
