-- `record::shape::grid_size` meets its contract.
use Prim.Native.Nat.{ℕ, ◌+◌, ◌*◌, ◌<◌}
use native.Mathlib.Omega.{arith}
use mathlib.Core.Path.{ap₂}
use Rattle.arith.specs.Integers.{mul_below}
use Rattle.record.specs.Shape.Laws.{shape_bounds}
use Rattle.record.specs.Shape.{grid_size, trash_of, stride_of}
use Rattle.record.proofs.shape.grid_size.Goals as goal

below : (c : goal.After-packed_height-h) → (c.packed_width-w.result + 2) * (c.packed_height-h.result + 2) < 4294967296
below c =
    let h = shape_bounds c.args.shape c.requires in
    let p = h.width_most in
    let q = h.height_most in
    mul_below _ _ 1027 1027 4294967296 (omega (arith, c.packed_width-w.ensures)) (omega (arith, c.packed_height-h.ensures)) tt

pub overflow_add-w : goal.overflow_add-w
overflow_add-w c = let h = shape_bounds c.args.shape c.requires in let p = h.width_most in omega (arith, c.packed_width-w.ensures)

pub overflow_add-h : goal.overflow_add-h
overflow_add-h c = let h = shape_bounds c.args.shape c.requires in let p = h.height_most in omega (arith, c.packed_height-h.ensures)

pub overflow_mul-result : goal.overflow_mul-result
overflow_mul-result c = let b = below c in omega arith

pub overflow_add-result : goal.overflow_add-result
overflow_add-result c = let b = below c in omega arith

pub returns : goal.returns
unfolding grid_size trash_of stride_of
returns c = ap₂ (λ (w h : ℕ). (w + 2) * (h + 2) + 1) c.packed_width-w.ensures c.packed_height-h.ensures
