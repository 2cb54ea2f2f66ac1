-- The two planes of a vector set (paper 01, 'Planes').
use Rattle.std.specs.Prelude.{ℕ, ◌*◌, ◌/◌, ◌%◌, Bool, cond, ◌&&◌, List, length, ℤ, pos, negsuc, ◌+ℤ◌, ◌-ℤ◌, neg_ℤ, ◌==◌, int_lt, nat_le, slice_index}
use Rattle.arith.specs.Integers.{up, eqb_z, in_range}
use Rattle.arith.specs.Splice.{over}
use Rattle.arith.specs.Tabulate.{tab}
use Rattle.record.specs.declared.shape.FieldShape.{FieldShape}
use Rattle.record.specs.Shape.{step_x_of, step_y_of, width_of, block_at, plane_size}
use Rattle.record.specs.Entries.{entry_at, set_of}
use Rattle.record.specs.Checks.{sets_number, side_number}
use Rattle.record.specs.Numbers.{first, unless}
use Rattle.maps.specs.declared.planes.Cell.{Cell}
pub mod Component
pub mod Laws
pub mod Drawn

-- ---- one cell

-- a component that the planes hold: from -1023 to 1023
unfoldable pub held : ℤ → Bool
held v = in_range (negsuc 1022) (pos 1023) v

-- a component v of a block at position p, kept in the picture: a block that would start before 0 is moved to 0, and one that would end past
-- the picture's side to that side, though not to before p
unfoldable pub clamp_of : ℤ → ℤ → ℤ → ℤ → ℤ
clamp_of v p block picture =
    cond (int_lt (v +ℤ p) (pos 0)) (neg_ℤ p) (cond (int_lt picture (v +ℤ p +ℤ block)) (pos (up (picture -ℤ p -ℤ block))) v)

-- with selector 0 a component is clamped; then v + 1024
unfoldable pub component_of : ℤ → ℤ → ℤ → ℤ → ℤ → ℕ
component_of selector v p block picture = up (cond (eqb_z selector (pos 0)) (clamp_of v p block picture) v +ℤ pos 1024)

-- the cell of a vector (vx, vy) at position (px, py): both planes get 1024 if either component isn't held
unfoldable pub packed_cell : FieldShape → ℤ → ℤ → ℤ → ℤ → Cell
packed_cell s vx vy px py =
    cond (held vx && held vy)
    (record {
      x = component_of s.selector vx px s.block_w s.width;
      y = component_of s.selector vy py s.block_h s.height;
    })
    (record { x = 1024; y = 1024 })

-- ---- the planes, row by row

-- the column and the row of cell k
unfoldable pub cell_column : FieldShape → ℕ → ℕ
cell_column s k = k % width_of s

unfoldable pub cell_row : FieldShape → ℕ → ℕ
cell_row s k = k / width_of s

-- the block of cell k
unfoldable pub cell_block : FieldShape → ℕ → ℕ
cell_block s k = block_at s (cell_column s k) (cell_row s k)

-- cell (x, y) of a set: its block's vector, at position x × step, y × step down; the position grows where a block is repeated too
unfoldable pub cell_at : FieldShape → List ℕ → ℕ → ℕ → Cell
cell_at s set x y =
    packed_cell s (entry_at set (block_at s x y)).x (entry_at set (block_at s x y)).y (pos (x * step_x_of s)) (pos (y * step_y_of s))

-- cell k
unfoldable pub x_at : FieldShape → List ℕ → ℕ → ℕ
x_at s set k = (cell_at s set (cell_column s k) (cell_row s k)).x

unfoldable pub y_at : FieldShape → List ℕ → ℕ → ℕ
y_at s set k = (cell_at s set (cell_column s k) (cell_row s k)).y

-- paper 01's two planes: the components across, and those down
unfoldable pub x_plane : FieldShape → List ℕ → List ℕ
x_plane s set = tab (x_at s set) (plane_size s)

unfoldable pub y_plane : FieldShape → List ℕ → List ℕ
y_plane s set = tab (y_at s set) (plane_size s)

-- two plane buffers
pub record Planes : Type 0 where
  pub xs : List ℕ
  pub ys : List ℕ

abbrev pub planes : List ℕ → List ℕ → Planes
planes xs ys = record { xs = xs; ys = ys }

-- both planes of a set written to the front of two buffers, whose surplus stays
unfoldable pub planes_made : FieldShape → List ℕ → Planes → Planes
planes_made s set p = planes (over (x_plane s set) p.xs) (over (y_plane s set) p.ys)

-- ---- one block's cells worked out anew

-- f k where the block of cell k is b; else what the buffer has there
unfoldable pub renewed_at : FieldShape → ℕ → (ℕ → ℕ) → List ℕ → ℕ → ℕ
renewed_at s b f l k = cond (cell_block s k == b) (f k) (slice_index l k)

-- a buffer with f k in each cell k whose block is b; every other cell stays
unfoldable pub renewed_cells : FieldShape → ℕ → (ℕ → ℕ) → List ℕ → List ℕ
renewed_cells s b f l = over (tab (renewed_at s b f l) (plane_size s)) l

unfoldable pub planes_patched : FieldShape → List ℕ → ℕ → Planes → Planes
planes_patched s set b p = planes (renewed_cells s b (x_at s set) p.xs) (renewed_cells s b (y_at s set) p.ys)

-- ---- pack

-- 2 the shape; 3 a set or a plane too short; 8 the side
unfoldable pub pack_number : FieldShape → ℕ → ℕ → ℕ → ℕ → ℕ → ℕ
pack_number s side backward forward xs ys =
    first (sets_number s backward forward) (first (unless (nat_le (plane_size s) xs && nat_le (plane_size s) ys) 3) (side_number side))

-- what pack answers and leaves
pub record Packed : Type 0 where
  pub number : ℕ
  pub backward : List ℕ
  pub forward : List ℕ
  pub planes : Planes

abbrev pub packed : ℕ → List ℕ → List ℕ → List ℕ → List ℕ → Packed
packed number backward forward xs ys = record { number = number; backward = backward; forward = forward; planes = planes xs ys }

unfoldable pub pack_of : FieldShape → ℕ → List ℕ → List ℕ → Planes → Packed
pack_of s side b f p =
    let number : ℕ = pack_number s side (length b) (length f) (length p.xs) (length p.ys) in
    let made : Planes = planes_made s (set_of side b f) p in
    cond (number == 0) (packed 0 b f made.xs made.ys) (packed number b f p.xs p.ys)
