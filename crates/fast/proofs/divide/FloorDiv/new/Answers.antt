-- `fast::divide::FloorDiv::new` meets its contract.
use mathlib.Core.Path.{◌≡◌}
use Prim.Native.Nat.{◌-◌, ◌*◌}
use native.Mathlib.Omega.{arith}
use lib.IntN.{pos}
use mir.Syntax.{w32}
use mir.Val.{to_z}
use mir.ValLaws.{to_z_pos}
use Rattle.fast.specs.Reciprocal.{bias_of, floor_div_of}
use Rattle.fast.specs.Reciprocal.Laws.{offset_most, bias_most, ceil_least, ceil_most}
use Rattle.fast.proofs.divide.FloorDiv.new.Goals as goal

pub overflow_sub-result : goal.overflow_sub-result
overflow_sub-result c =
    let a = c.args in
    rw c.reciprocal-m.ensures (omega (arith, ceil_least a.divisor c.requires.0 c.requires.1))

pub overflow_cast-result-2 : goal.overflow_cast-result-2
overflow_cast-result-2 c =
    let a = c.args in
    rw c.reciprocal-m.ensures (record { fits = omega (arith, ceil_most a.divisor c.requires.0) })

pub overflow_cast-result-3 : goal.overflow_cast-result-3
unfolding bias_of
overflow_cast-result-3 c = record { sfits = omega (arith, bias_most c.args.divisor c.requires.0 c.requires.1) }

pub overflow_mul-result : goal.overflow_mul-result
unfolding bias_of
overflow_mul-result c = record { fits = omega (arith, offset_most c.args.divisor c.requires.0 c.requires.1) }

pub overflow_cast-result-4 : goal.overflow_cast-result-4
unfolding bias_of
overflow_cast-result-4 c = record { sfits = omega (arith, offset_most c.args.divisor c.requires.0 c.requires.1) }

pub returns : goal.returns
unfolding bias_of floor_div_of
returns c =
    let d = c.args.divisor in
    let h = c.requires.0 in
    let k = c.requires.1 in
    let b = bias_most d h k in
    let o = offset_most d h k in
    let bd : to_z w32 d ≡ pos d = to_z_pos w32 d (omega arith) in
    let bb : to_z w32 (bias_of d) ≡ pos (bias_of d) = to_z_pos w32 (bias_of d) (omega arith) in
    let bo : to_z w32 (bias_of d * d) ≡ pos (bias_of d * d) = to_z_pos w32 (bias_of d * d) (omega arith) in
    λ i. record { divisor = bd i; less = c.reciprocal-m.ensures i - 1; bias = bb i; offset = bo i }
