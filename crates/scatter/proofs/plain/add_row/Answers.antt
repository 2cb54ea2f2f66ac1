-- `scatter::plain::add_row` meets its contract. The loop's invariant: the row's blocks before `column` have been added.
use Rattle.std.proofs.Common.{◌≡◌, ℕ, ◌+◌, ◌*◌, ◌≤◌, ◌<◌, sym, ◌∙◌, subst, arith, w16}
use Rattle.arith.specs.Signed.{answered}
use Rattle.arith.specs.Integers.{up}
use Rattle.record.specs.Shape.{blocks_of, set_size}
use Rattle.record.specs.Shape.Laws.{block_below}
use Rattle.scatter.specs.declared.geometry.Scatter.{Scatter}
use Rattle.scatter.specs.Geometry.{RowRoom}
use Rattle.scatter.specs.Cells.{cells_at}
use Rattle.scatter.specs.Cells.Laws.{from_room, at_place}
use Rattle.scatter.specs.Added.{added, added_run, row_added}
use Rattle.scatter.specs.Added.Laws.{run_none, run_next}
use Rattle.scatter.proofs.plain.add_row.Goals as goal

-- a block of the row is one of the set
room : (g : Scatter) (row column n set grid : ℕ) → RowRoom g row set grid → n ≡ up g.shape.grid_w → column < n → 8 * (row * n + column) + 8 ≤ set
unfolding set_size
room g row column n set grid r e h =
    let below : row * n + column < blocks_of g.shape =
    subst (λ (m : ℕ). row * m + column < blocks_of g.shape) (sym e) (block_below g.shape row column r.row_below (omega (arith, e))) in
    omega (arith, below, r.set_room)

pub loop-column-init : goal.loop-column-init
loop-column-init c = sym (run_none _ _ c.args.grid.now)

pub x_at-x-requires : goal.x_at-x-requires
x_at-x-requires c = room c.args.g c.args.row c.loop-column.column _ _ _ c.requires c.columns-columns.ensures (omega arith)

pub y_at-y-requires : goal.y_at-y-requires
y_at-y-requires c = room c.args.g c.args.row c.loop-column.column _ _ _ c.requires c.columns-columns.ensures (omega arith)

pub add-requires : goal.add-requires
add-requires c = from_room c.args.g.shape c.loop-column.column c.args.row _ _ _ _ c.of_vector-cells.ensures (omega (arith, c.requires.grid_room))

pub loop-column-preserved : goal.loop-column-preserved
loop-column-preserved c =
    let a = c.args in
    let l = c.loop-column in
    let x = answered w16 c.x_at-x.type_inv c.x_at-x.ensures in
    let y = answered w16 c.y_at-y.type_inv c.y_at-y.ensures in
    let cells = c.of_vector-cells.ensures ∙ at_place a.g.shape a.g.time a.set.now a.row l.column _ _ _ c.columns-columns.ensures (omega arith) x y in
    c.add.ensures ∙ (λ i. added (l.invariant i) (cells i)) ∙ sym (run_next _ _ l.column a.grid.now)

pub returns : goal.returns
unfolding row_added
returns c =
    let a = c.args in
    let n = c.columns-columns.ensures in
    let e : c.loop-column.column ≡ c.columns-columns.result = omega arith in
    c.loop-column.invariant ∙ (λ i. added_run (cells_at a.g.shape a.g.time a.set.now) (a.row * n i) ((e ∙ n) i) a.grid.now)
