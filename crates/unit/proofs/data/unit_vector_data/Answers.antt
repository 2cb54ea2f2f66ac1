-- `unit::data::unit_vector_data` meets its contract: each case of the outcome is the record that it means.
use Rattle.std.proofs.Common.{ap, ◌∙◌, [], ◌∷◌}
use Rattle.record.specs.Data.{Reading, reading_of}
use Rattle.unit.specs.Answers.{kept}
use Rattle.unit.proofs.data.unit_vector_data.Goals as goal

pub returns-in-Ok : goal.returns-in-Ok
unfolding reading_of
returns-in-Ok c = ap (λ (r : Reading). kept r (c.args.«data».now ∷ [])) c.in-Ok.ensures

pub returns-in-Err : goal.returns-in-Err
unfolding reading_of
returns-in-Err c =
    (λ i. kept {A = Reading} (record { number = c.code.ensures i; values = c.no_fields.ensures i }) (c.args.«data».now ∷ []))
    ∙ ap (λ (r : Reading). kept r (c.args.«data».now ∷ [])) c.in-Err.ensures
