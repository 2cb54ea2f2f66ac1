-- `record::fields::u16_at` meets its contract.
use Prim.Native.Nat.{◌+◌, ◌*◌}
use native.Mathlib.Omega.{arith}
use Rattle.record.specs.Bytes.{u16_at}
use Rattle.record.proofs.fields.u16_at.Goals as goal

pub returns : goal.returns
unfolding u16_at
returns c = (λ i. c.wide.ensures.0 i + 256 * c.wide-2.ensures.0 i, omega (arith, c.wide.ensures.1, c.wide-2.ensures.1))
