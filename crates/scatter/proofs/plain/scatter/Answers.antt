-- `scatter::plain::scatter` meets its contract. The loop's invariant: the rows before `row` have been added to the zeros.
use Rattle.std.proofs.Common.{ℕ, ◌*◌, sym, ap, ◌∙◌, arith}
use Rattle.arith.specs.Integers.{up}
use Rattle.arith.specs.Splice.{over}
use Rattle.scatter.specs.Cells.{cells_at}
use Rattle.scatter.specs.Geometry.{geometry_of}
use Rattle.scatter.specs.Geometry.Laws.{geometry_back, row_room}
use Rattle.scatter.specs.Grid.{zeros}
use Rattle.scatter.specs.Grid.Laws.{rows_all}
use Rattle.scatter.specs.Added.{added_run}
use Rattle.scatter.specs.Added.Laws.{rows_none, rows_step}
use Rattle.scatter.proofs.plain.scatter.Goals as goal

pub loop-row-init : goal.loop-row-init
loop-row-init c = sym (rows_none _ _ _ c.clear.new.grid)

pub add_row-requires : goal.add_row-requires
add_row-requires c =
    let a = c.args in
    let r = c.requires in
    row_room a.shape a.time c.new-g.result c.loop-row.row _ _ (geometry_back r.timed a.shape c.new-g.result c.new-g.ensures)
    (record { accepted = r.accepted; timed = r.timed; set_room = r.set_room; grid_room = omega (arith, r.grid_room) })
    (omega (arith, c.rows-rows.ensures))

pub loop-row-preserved : goal.loop-row-preserved
loop-row-preserved c = rows_step _ _ _ c.loop-row.row _ c.loop-row.grid _ c.loop-row.invariant c.add_row.ensures

pub returns : goal.returns
unfolding geometry_of
returns c =
    let a = c.args in
    let row = c.loop-row.row in
    let m = geometry_back c.requires.timed a.shape c.new-g.result c.new-g.ensures in
    let z = c.clear.ensures ∙ ap (λ (k : ℕ). over (zeros k) a.grid.now) c.grid_size-size.ensures in
    c.loop-row.invariant
    ∙ (λ i. added_run (cells_at (m i).shape (m i).time a.set.now) 0 (row * up (m i).shape.grid_w) (z i))
    ∙ rows_all a.shape a.time a.set.now row a.grid.now (omega (arith, c.rows-rows.ensures))
