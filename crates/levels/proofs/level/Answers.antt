-- `levels::level` meets its contract: 255 is the most a level can be, and eight halvings of 0 to 255 leave one number.
use native.Mathlib.Omega.{arith}
use lib.Dec.{lit<, lit≤}
use Rattle.levels.specs.Level.Laws.{level_from, level_most}
use Rattle.levels.proofs.level.Goals as goal

pub returns-then-most-value : goal.returns-then-most-value
returns-then-most-value c =
    let v = c.args.value in
    omega (arith, level_from v 255 (lit< tt) (lit≤ tt) c.if-most-value.true, level_most v)

pub halve-a-requires : goal.halve-a-requires
halve-a-requires c = omega (arith, level_most c.args.value)
