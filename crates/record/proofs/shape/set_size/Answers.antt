-- `record::shape::set_size` meets its contract.
use Prim.Native.Nat.{ℕ, ◌*◌}
use native.Mathlib.Omega.{arith}
use mathlib.Core.Path.{ap}
use Rattle.record.specs.Shape.{set_size}
use Rattle.record.specs.Shape.Laws.{shape_bounds}
use Rattle.record.proofs.shape.set_size.Goals as goal

pub overflow_mul-result : goal.overflow_mul-result
overflow_mul-result c = record { fits = let e = c.blocks-2.ensures in let h = (shape_bounds c.args.shape c.requires).blocks_most in omega arith }

pub returns : goal.returns
unfolding set_size
returns c = ap (λ (n : ℕ). 8 * n) c.blocks-2.ensures
