-- `record::fields::i16_at` meets its contract.
use mathlib.Core.Path.{ap, ◌∙◌}
use mir.Syntax.{w16}
use mir.Val.{to_z}
use Rattle.arith.specs.Signed.{answered}
use Rattle.record.specs.Bytes.{i16_at}
use Rattle.record.proofs.fields.i16_at.Goals as goal

pub returns : goal.returns
unfolding i16_at
returns c = answered w16 c.i16_of.type_inv c.i16_of.ensures ∙ ap (to_z w16) c.u16_at.ensures.0
