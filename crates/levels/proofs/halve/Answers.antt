-- `levels::halve` meets its contract: the comparison's answer says on which side of low + half the level is.
use Prim.Native.Nat.{◌+◌}
use native.Mathlib.Omega.{arith}
use Rattle.levels.specs.Level.Laws.{level_from, level_below}
use Rattle.levels.proofs.halve.Goals as goal

pub returns-then-low-half : goal.returns-then-low-half
returns-then-low-half c =
    let a = c.args in
    let p = c.requires in
    omega (arith, level_from a.value (a.low + a.half) (omega arith) p.1 c.if-low-half.true)

pub returns-else-low-half : goal.returns-else-low-half
returns-else-low-half c =
    let a = c.args in
    let p = c.requires in
    omega (arith, level_below a.value (a.low + a.half) (omega arith) p.1 c.if-low-half.false)
