-- `unit::pool::unit_pool` meets its contract: that of `pool`, and both payloads as they were.
use Rattle.std.proofs.Common.{rules, sym, ap, ◌∙◌, [], ◌∷◌}
use Rattle.state.specs.Buffers.{Out, out}
use Rattle.state.proofs.Ended.{ended}
use Rattle.unit.specs.Answers.{kept}
use Rattle.unit.proofs.pool.unit_pool.Goals as goal

pub returns : goal.returns
returns c =
    let a = c.args in
    let o = out c.pool.result.number c.pool.result.session in
    ap (λ (o : Out). kept o (a.first.now ∷ a.second.now ∷ []))
    (ap o (ended _ _ _ _ _ _ _ _ _ c.pool.new.buffers (search rules) (search rules) (sym c.pool.ensures.same_references.table) (search rules) (search rules) (search rules) (search rules) (search rules))
    ∙ c.pool.ensures.made)
