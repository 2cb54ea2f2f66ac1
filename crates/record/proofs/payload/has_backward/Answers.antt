-- `record::payload::has_backward` meets its contract.
use Prim.Native.Nat.{ℕ, ◌%◌}
use mathlib.Core.Path.{ap}
use lib.Dec.{eqb}
use Rattle.arith.specs.Wrap.Laws.{res_back}
use Rattle.record.specs.Update.{has_backward}
use Rattle.record.proofs.payload.has_backward.Goals as goal

pub returns : goal.returns
unfolding has_backward
returns c = ap (λ (n : ℕ). eqb (n % 2) 1) (res_back c.args.shape.flags _ (record { sfits = c.struct_told-1.given.0.1 }) c.to_bits.ensures)
