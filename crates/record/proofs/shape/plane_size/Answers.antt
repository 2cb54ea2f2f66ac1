-- `record::shape::plane_size` meets its contract.
use Prim.Native.Nat.{ℕ, ◌*◌}
use native.Mathlib.Omega.{arith}
use mathlib.Core.Path.{ap₂}
use Rattle.arith.specs.Integers.{mul_below}
use Rattle.record.specs.Shape.Laws.{shape_bounds}
use Rattle.record.specs.Shape.{plane_size}
use Rattle.record.proofs.shape.plane_size.Goals as goal

pub overflow_mul-result : goal.overflow_mul-result
overflow_mul-result c = let h = shape_bounds c.args.shape c.requires in let p = h.width_most in let q = h.height_most in record { fits = mul_below _ _ 1025 1025 18446744073709551616 (omega (arith, c.packed_width-w.ensures)) (omega (arith, c.packed_height-h.ensures)) tt }

pub returns : goal.returns
unfolding plane_size
returns c = ap₂ (λ (w h : ℕ). w * h) c.packed_width-w.ensures c.packed_height-h.ensures
