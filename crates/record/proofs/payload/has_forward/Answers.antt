-- `record::payload::has_forward` meets its contract.
use Prim.Native.Nat.{ℕ, ◌/◌, ◌%◌}
use mathlib.Core.Path.{ap}
use lib.Dec.{eqb}
use Rattle.arith.specs.Wrap.Laws.{res_back}
use Rattle.record.specs.Update.{has_forward}
use Rattle.record.proofs.payload.has_forward.Goals as goal

pub returns : goal.returns
unfolding has_forward
returns c = ap (λ (n : ℕ). eqb (n / 2 % 2) 1) (res_back c.args.shape.flags _ (record { sfits = c.struct_told-1.given.0.1 }) c.to_bits.ensures)
