-- The checks that calls share (paper 01, 'Refused calls').
use Rattle.std.specs.Prelude.{◌&&◌, ℕ, leb}
use Rattle.record.specs.declared.shape.FieldShape.{FieldShape}
use Rattle.record.specs.Shape.{shape_number, set_size}
use Rattle.record.specs.Entries.{side_accepted}
use Rattle.record.specs.Numbers.{first, unless}
pub mod Laws

-- 2 the shape; 3 a set too short, of the lengths of both
unfoldable pub sets_number : FieldShape → ℕ → ℕ → ℕ
sets_number s backward forward = first (shape_number s) (unless (leb (set_size s) backward && leb (set_size s) forward) 3)

-- 8 a side that is neither 1 nor 2
unfoldable pub side_number : ℕ → ℕ
side_number side = unless (side_accepted side) 8
