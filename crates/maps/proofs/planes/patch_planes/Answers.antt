-- `maps::planes::patch_planes` meets its contract: a block's cells are a rectangle of at most two columns and two rows.
use Rattle.std.proofs.Common.{◌≡◌, ℕ, ◌/◌, ◌%◌, ◌<◌, ◌≤◌, List, length, ◌∙◌, subst}
use Rattle.arith.specs.Integers.{up}
use Rattle.record.specs.declared.shape.FieldShape.{FieldShape}
use Rattle.record.specs.Shape.{blocks_of, width_of, height_of, plane_size, column_of, row_of}
use Rattle.record.specs.Shape.Laws.{Accepted, row_below}
use Rattle.maps.specs.Planes.{planes, planes_patched, renewed_cells, x_at, y_at}
use Rattle.maps.specs.Planes.Drawn.{Drawn, InRectangle, end_of, end_x, end_y, columns, rows, drawn_block}
use Rattle.maps.proofs.planes.patch_planes.Goals as goal

-- the ends, as the code has them
module _ (s : FieldShape) (a : Accepted s) (b n : ℕ) (en : n ≡ up s.grid_w) where
  x_end : (w r : ℕ) → w ≡ width_of s → r ≡ end_of (b % n) n w → r ≡ end_x s b
  unfolding column_of
  x_end w r e q = q ∙ (λ i. end_of (b % en i) (en i) (e i))

  y_end : (m h r : ℕ) → m ≡ up s.grid_h → h ≡ height_of s → r ≡ end_of (b / n) m h → r ≡ end_y s b
  unfolding row_of
  y_end m h r em e q = q ∙ (λ i. end_of (b / en i) (em i) (e i))

  -- the rectangle lies within the planes
  within : (x₁ y₁ : ℕ) → b < blocks_of s → x₁ ≡ end_x s b → y₁ ≡ end_y s b → (b % n ≤ x₁) × (x₁ ≤ width_of s) × (b / n ≤ y₁) × (y₁ ≤ height_of s)
  unfolding column_of row_of
  within x₁ y₁ l p q =
      let c = columns s a b l in
      let r = rows s a b l in
      (rw (p, en) c.0, rw p c.1, rw (q, en) r.0, rw q r.1)

  -- what was drawn, with the names of the definitions
  renewed : (f : ℕ → ℕ) (x₁ y₁ : ℕ) (old new : List ℕ) → b < blocks_of s → plane_size s ≤ length old
      → x₁ ≡ end_x s b → y₁ ≡ end_y s b → Drawn (InRectangle s (b % n) x₁ (b / n) y₁) f old new → new ≡ renewed_cells s b f old
  unfolding column_of row_of
  renewed f x₁ y₁ old new l room p q d =
      drawn_block s a b l f old new room
      (subst (λ (P : ℕ → Type 0). Drawn P f old new) (λ i k. InRectangle s (b % en i) (p i) (b / en i) (q i) k) d)

pub end_of-requires-2 : goal.end_of-requires-2
unfolding row_of
end_of-requires-2 c =
    rw (c.columns-grid_w.ensures, c.rows-grid_h.ensures) (row_below c.args.shape c.args.block c.requires.0.accepted c.requires.1)

pub pack_rows-requires : goal.pack_rows-requires
pack_rows-requires c =
    let a = c.requires.0.accepted in
    let n = c.columns-grid_w.ensures in
    let x = x_end c.args.shape a c.args.block _ n _ _ c.packed_width-w.ensures c.end_of.ensures in
    let y = y_end c.args.shape a c.args.block _ n _ _ _ c.rows-grid_h.ensures c.packed_height-h.ensures c.end_of-2.ensures in
    let h = within c.args.shape a c.args.block _ n _ _ c.requires.1 x y in
    (record { ready = c.requires.0; width = c.packed_width-w.ensures }, h.0, h.1, h.2, h.3)

pub returns : goal.returns
unfolding planes_patched
returns c =
    let s : FieldShape = c.args.shape in
    let b : ℕ = c.args.block in
    let p = c.requires.0 in
    let n = c.columns-grid_w.ensures in
    let x = x_end s p.accepted b _ n _ _ c.packed_width-w.ensures c.end_of.ensures in
    let y = y_end s p.accepted b _ n _ _ _ c.rows-grid_h.ensures c.packed_height-h.ensures c.end_of-2.ensures in
    λ i.
    planes
    (renewed s p.accepted b _ n (x_at s c.args.set.now) _ _ c.args.xs.now _ c.requires.1 p.x_room x y c.pack_rows.ensures.0 i)
    (renewed s p.accepted b _ n (y_at s c.args.set.now) _ _ c.args.ys.now _ c.requires.1 p.y_room x y c.pack_rows.ensures.1 i)
