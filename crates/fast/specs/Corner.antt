-- Where a block's four cells lie together: a fast row holds two of its products back only there.
use Rattle.std.specs.Prelude.{cond, Option, ◌&&◌, ℕ, ℤ, pos, ◌+ℤ◌}
use Rattle.std.specs.Bool.{then_some}
use Rattle.arith.specs.Integers.{up}
use Rattle.record.specs.declared.shape.FieldShape.{FieldShape}
use Rattle.scatter.specs.Cells.{inside, index_of}
pub mod Laws

-- the index of cell (x, y) where it and (x + 1, y + 1) are inside, and with them the other two; else 0, which is on the border and so the index of no (x, y)
unfoldable pub corner_of : FieldShape → ℤ → ℤ → ℕ
corner_of s x y = cond (inside s x y && inside s (x +ℤ pos 1) (y +ℤ pos 1)) (index_of s (up x) (up y)) 0

-- the same index, where they are inside
unfoldable pub corner_at : FieldShape → ℤ → ℤ → Option ℕ
corner_at s x y = then_some (inside s x y && inside s (x +ℤ pos 1) (y +ℤ pos 1)) (index_of s (up x) (up y))
