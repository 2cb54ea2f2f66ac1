-- `maps::planes::cell_at` meets its contract: the block is one of the set's, and both positions are within bounds.
use Rattle.std.proofs.Common.{◌≡◌, ℕ, ◌+◌, ◌*◌, ◌<◌, ◌≤◌, ℤ, pos, ◌-ℤ◌, ap, ◌∙◌, mul-le-mul, arith, w16, w32, to_z, of_z}
use Rattle.arith.specs.Integers.{dn}
use Rattle.arith.specs.Signed.{read, answered}
use Rattle.record.specs.declared.shape.FieldShape.{FieldShape}
use Rattle.record.specs.Entries.{entry_at}
use Rattle.record.specs.Shape.{step_of, step_x_of, step_y_of, set_size, width_of, height_of, block_at}
use Rattle.record.specs.Shape.Laws.{Axis, Accepted, shape_bounds, block_back, overlap_back, entry_room}
use Rattle.maps.specs.Planes.{packed_cell, cell_at}
use Rattle.maps.specs.Planes.Laws.{block_lt}
use Rattle.maps.proofs.planes.cell_at.Goals as goal

-- ---- a position: of column or row i on its axis

module _ {block overlap grid picture : ℤ} (a : Axis block overlap grid picture) (i : ℕ) (few : i ≤ 1024) where
  steps : (i ≤ 1024)
      × (to_z w32 (of_z w32 block) -ℤ to_z w32 (of_z w32 overlap) ≡ pos (step_of (to_z w32 (of_z w32 block)) (to_z w32 (of_z w32 overlap))))
      × (step_of (to_z w32 (of_z w32 block)) (to_z w32 (of_z w32 overlap)) ≤ 256)
  steps = (few, rw (block_back a, overlap_back a) a.step_range.is, rw (block_back a, overlap_back a) a.step_range.most)

  position_most : i * step_of block overlap ≤ 262400
  position_most = omega (arith, mul-le-mul few a.step_range.most)

  position_is : (r : ℤ) → r ≡ pos (i * step_of (to_z w32 (of_z w32 block)) (to_z w32 (of_z w32 overlap))) → to_z w32 (of_z w32 r) ≡ pos (i * step_of block overlap)
  position_is r e =
      read w32 (e ∙ (λ j. pos (i * step_of (block_back a j) (overlap_back a j)))) (record { sfits = omega (arith, position_most) })

module _ (s : FieldShape) (a : Accepted s) where
  x_few : (x : ℕ) → x < width_of s → x ≤ 1024
  x_few x h = omega (arith, (shape_bounds s a).width_most)

  y_few : (y : ℕ) → y < height_of s → y ≤ 1024
  y_few y h = omega (arith, (shape_bounds s a).height_most)

pub position-px-requires : goal.position-px-requires
position-px-requires c = steps c.requires.0.x c.args.x (x_few c.args.shape c.requires.0 c.args.x c.requires.2)

pub position-py-requires : goal.position-py-requires
position-py-requires c = steps c.requires.0.y c.args.y (y_few c.args.shape c.requires.0 c.args.y c.requires.3)

-- ---- the block's entry is within the set

room : (s : FieldShape) (set b x y : ℕ) → Accepted s → set_size s ≤ set → b ≡ block_at s x y → 8 * b + 8 ≤ set
room s set b x y a h e = rw e (entry_room s (block_at s x y) set (block_lt s a x y) h)

pub x_at-requires : goal.x_at-requires
x_at-requires c = room _ _ _ _ _ c.requires.0 c.requires.1 c.block_at-block.ensures

pub y_at-requires : goal.y_at-requires
y_at-requires c = room _ _ _ _ _ c.requires.0 c.requires.1 c.block_at-block.ensures

pub packed_cell-requires : goal.packed_cell-requires
unfolding step_x_of step_y_of
packed_cell-requires c =
    let a = c.requires.0 in
    let x = x_few c.args.shape a c.args.x c.requires.2 in
    let y = y_few c.args.shape a c.args.y c.requires.3 in
    let px = position_is a.x c.args.x x _ c.position-px.ensures in
    let py = position_is a.y c.args.y y _ c.position-py.ensures in
    (a, ap dn px, rw px (position_most a.x c.args.x x), ap dn py, rw py (position_most a.y c.args.y y))

pub returns : goal.returns
unfolding cell_at step_x_of step_y_of
returns c =
    let s = c.args.shape in
    let a = c.requires.0 in
    let set = c.args.set.now in
    let block = c.block_at-block.ensures in
    let px = position_is a.x c.args.x (x_few s a c.args.x c.requires.2) _ c.position-px.ensures in
    let py = position_is a.y c.args.y (y_few s a c.args.y c.requires.3) _ c.position-py.ensures in
    let x_is = answered w16 c.x_at.type_inv c.x_at.ensures in
    let y_is = answered w16 c.y_at.type_inv c.y_at.ensures in
    c.packed_cell.ensures
    ∙ (λ i. packed_cell s (x_is i) (y_is i) (px i) (py i))
    ∙ (λ i. packed_cell s (entry_at set (block i)).x (entry_at set (block i)).y (pos (c.args.x * step_x_of s)) (pos (c.args.y * step_y_of s)))
