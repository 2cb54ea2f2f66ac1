-- `history::write_step` meets its contract: the five fields, one behind the other.
use Rattle.std.proofs.Common.{List, ℕ, ap, ◌∙◌}
use Rattle.arith.specs.Splice.{splice}
use Rattle.record.specs.Bytes.{u32_bytes}
use Rattle.record.specs.Entries.{with_entry}
use Rattle.history.specs.History.Laws.{step_written}
use Rattle.history.proofs.write_step.Goals as goal

pub returns : goal.returns
returns c =
    let p = c.args.step in
    c.put_u32-3.ensures
    ∙ ap (splice 24 (u32_bytes p.gesture))
    (c.write-2.ensures
    ∙ ap (λ (l : List ℕ). with_entry l 2 p.new)
    (c.write.ensures
    ∙ ap (λ (l : List ℕ). with_entry l 1 p.old) (c.put_u32-2.ensures ∙ ap (splice 4 (u32_bytes p.side)) c.put_u32.ensures)))
    ∙ step_written p c.args.slot.now c.requires.0
