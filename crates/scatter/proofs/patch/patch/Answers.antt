-- `scatter::patch::patch` meets its contract: the block's column and row, its old cells removed, its new ones added.
use Rattle.std.proofs.Common.{rules, ◌≡◌, ℕ, ◌/◌, ◌%◌, ◌≤◌, ℤ, length, sym, ap, ◌∙◌, subst, arith, w16, w32, SFits, to_z, of_z}
use Rattle.arith.specs.Integers.{up}
use Rattle.arith.specs.Signed.{back}
use Rattle.record.specs.declared.shape.FieldShape.{FieldShape}
use Rattle.record.specs.Shape.{grid_size, column_of, row_of}
use Rattle.record.specs.Shape.Laws.{column_below, row_below}
use Rattle.scatter.specs.declared.geometry.Cells.{Cells}
use Rattle.scatter.specs.declared.geometry.Scatter.{Scatter}
use Rattle.scatter.specs.Block.{t_of}
use Rattle.scatter.specs.Cells.{cells_from, cells_of, Within}
use Rattle.scatter.specs.Cells.Laws.{from_room}
use Rattle.scatter.specs.Geometry.{BlockRoom, Placed, geometry_of}
use Rattle.scatter.specs.Geometry.Laws.{geometry_back, geometry_made}
use Rattle.scatter.specs.Added.{added, removed, patched}
use Rattle.scatter.specs.Added.Laws.{length_removed}
use Rattle.scatter.proofs.patch.patch.Goals as goal

-- the block's place in a grid of n columns, and its cells there
module _ (s : FieldShape) (T : ℤ) (block room n : ℕ) (r : BlockRoom s T block room) (e : n ≡ up s.grid_w) where
  column_is : block % n ≡ column_of s block
  unfolding column_of
  column_is = ap (λ (m : ℕ). block % m) e

  row_is : block / n ≡ row_of s block
  unfolding row_of
  row_is = ap (λ (m : ℕ). block / m) e

  placed : (g : Scatter) → g ≡ geometry_of s (to_z w32 (of_z w32 T)) → Placed g (block % n) (block / n)
  placed g made =
      let a = r.accepted in
      let x = a.x.grid_range.most in
      let y = a.y.grid_range.most in
      record {
        geometry = geometry_made r.timed s g a made;
        column_most = omega (arith, column_is, column_below s block a);
        row_most = omega (arith, row_is, row_below s block a r.block_below);
      }

  -- the cells of the block with a vector, as the leaf gives them
  cells_is : (g : Scatter) (q : Cells) (x y : ℤ) → g ≡ geometry_of s (to_z w32 (of_z w32 T)) → SFits w16 x → SFits w16 y
      → q ≡ cells_from g.shape (block % n) (block / n) (t_of g.shape g.time (to_z w16 (of_z w16 x))) (t_of g.shape g.time (to_z w16 (of_z w16 y)))
      → q ≡ cells_of s T block x y
  unfolding cells_of geometry_of
  cells_is g q x y made f h c =
      let m = geometry_back r.timed s g made in
      c
      ∙ (λ i. cells_from (m i).shape (column_is i) (row_is i) (t_of (m i).shape (m i).time (back w16 f i)) (t_of (m i).shape (m i).time (back w16 h i)))

  -- they lie in the grid, whatever the vector
  inside : (g : Scatter) (q : Cells) (tx ty : ℤ) → g ≡ geometry_of s (to_z w32 (of_z w32 T)) → q ≡ cells_from g.shape (block % n) (block / n) tx ty → Within q room
  unfolding geometry_of
  inside g q tx ty made c =
      from_room g.shape _ _ tx ty q room c (subst (λ (h : Scatter). grid_size h.shape ≤ room) (sym (geometry_back r.timed s g made)) r.grid_room)

pub nonzero_rem-column : goal.nonzero_rem-column
nonzero_rem-column c = omega (arith, c.columns-columns.ensures, c.requires.accepted.x.grid_range.least)

pub nonzero_div-row : goal.nonzero_div-row
nonzero_div-row c = omega (arith, c.columns-columns.ensures, c.requires.accepted.x.grid_range.least)

pub of_vector-before-requires : goal.of_vector-before-requires
of_vector-before-requires c = placed c.args.shape c.args.time c.args.block _ _ c.requires c.columns-columns.ensures c.new-g.result c.new-g.ensures

pub remove-requires : goal.remove-requires
remove-requires c =
    inside c.args.shape c.args.time c.args.block _ _ c.requires c.columns-columns.ensures c.new-g.result c.of_vector-before.result _ _ c.new-g.ensures c.of_vector-before.ensures

pub of_vector-after-requires : goal.of_vector-after-requires
of_vector-after-requires c = placed c.args.shape c.args.time c.args.block _ _ c.requires c.columns-columns.ensures c.new-g.result c.new-g.ensures

pub add-requires : goal.add-requires
add-requires c =
    let e : length c.remove.new.grid ≡ length c.args.grid.now = ap length c.remove.ensures ∙ length_removed c.args.grid.now c.of_vector-before.result in
    subst (Within c.of_vector-after.result) (sym e)
    (inside c.args.shape c.args.time c.args.block _ _ c.requires c.columns-columns.ensures c.new-g.result c.of_vector-after.result _ _ c.new-g.ensures c.of_vector-after.ensures)

pub returns : goal.returns
unfolding patched
returns c =
    let a = c.args in
    let g = c.new-g.result in
    let is = cells_is a.shape a.time a.block _ _ c.requires c.columns-columns.ensures g in
    let before = is c.of_vector-before.result a.old.x a.old.y c.new-g.ensures (search rules) (search rules) c.of_vector-before.ensures in
    let after = is c.of_vector-after.result a.new.x a.new.y c.new-g.ensures (search rules) (search rules) c.of_vector-after.ensures in
    c.add.ensures ∙ (λ i. added ((c.remove.ensures ∙ ap (removed a.grid.now) before) i) (after i))
