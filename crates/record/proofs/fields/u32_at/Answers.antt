-- `record::fields::u32_at` meets its contract.
use Prim.Native.Nat.{◌+◌, ◌*◌}
use Rattle.record.specs.Bytes.{u24_at, u32_at}
use Rattle.record.proofs.fields.u32_at.Goals as goal

pub returns : goal.returns
unfolding u24_at u32_at
returns c = λ i. c.u24_at.ensures.0 i + 16777216 * c.wide.ensures.0 i
