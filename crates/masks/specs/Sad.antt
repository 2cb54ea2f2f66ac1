-- The SAD mask of a set (paper 01, 'Masks and class').
use Rattle.std.specs.Prelude.{List, ℕ, ◌*◌, Float}
use Rattle.arith.specs.Integers.{up}
use Rattle.arith.specs.Tabulate.{tab, by_rows}
use Rattle.record.specs.declared.shape.FieldShape.{FieldShape}
use Rattle.record.specs.Entries.{entry_at}
use Rattle.record.specs.Shape.{area_of, block_in, width_of, height_of}
use Rattle.levels.specs.Level.{sad_level}
pub mod Laws

-- the sad of entry i
unfoldable pub sad_at : List ℕ → ℕ → ℕ
sad_at set i = up (entry_at set i).sad

-- the byte at (x, y), of n columns and m rows of blocks: past them the nearest block's, as in a plane
unfoldable pub sad_byte : Float → ℕ → ℕ → ℕ → List ℕ → ℕ → ℕ → ℕ
sad_byte scale area n m set x y = sad_level scale area (sad_at set (block_in n m x y))

-- w × h bytes, row by row
unfoldable pub sad_bytes : Float → ℕ → ℕ → ℕ → ℕ → ℕ → List ℕ → List ℕ
sad_bytes scale area n m w h set = tab (by_rows (sad_byte scale area n m set) w) (w * h)

-- paper 01's SAD mask, of a shape
unfoldable pub sad_mask_of : FieldShape → Float → List ℕ → List ℕ
sad_mask_of s scale set = sad_bytes scale (area_of s) (up s.grid_w) (up s.grid_h) (width_of s) (height_of s) set
