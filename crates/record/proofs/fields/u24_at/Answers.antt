-- `record::fields::u24_at` meets its contract.
use Prim.Native.Nat.{◌+◌, ◌*◌}
use native.Mathlib.Omega.{arith}
use Rattle.record.specs.Bytes.{u16_at, u24_at}
use Rattle.record.proofs.fields.u24_at.Goals as goal

pub returns : goal.returns
unfolding u16_at u24_at
returns c = (λ i. c.u16_at.ensures.0 i + 65536 * c.wide.ensures.0 i, omega (arith, c.u16_at.ensures.1, c.wide.ensures.1))
