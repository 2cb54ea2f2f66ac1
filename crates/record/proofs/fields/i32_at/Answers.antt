-- `record::fields::i32_at` meets its contract.
use mathlib.Core.Path.{ap, ◌∙◌}
use mir.Syntax.{w32}
use mir.Val.{to_z}
use Rattle.arith.specs.Signed.{answered}
use Rattle.record.specs.Bytes.{i32_at}
use Rattle.record.proofs.fields.i32_at.Goals as goal

pub returns : goal.returns
unfolding i32_at
returns c = answered w32 c.from_bits.type_inv c.from_bits.ensures ∙ ap (to_z w32) c.u32_at.ensures
