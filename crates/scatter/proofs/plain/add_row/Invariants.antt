-- `scatter::plain::add_row` meets its contract. The loop's invariant: the row's blocks before `column` have been added.
use Rattle.std.proofs.Common.{◌≡◌}
use Rattle.scatter.specs.Cells.{cells_at}
use Rattle.scatter.specs.Added.{added_run}
use Rattle.scatter.proofs.plain.add_row.Given as goal

abbrev pub invariant-loop-column : goal.invariant-loop-column
invariant-loop-column l = l.grid ≡ added_run (cells_at l.g.shape l.g.time l.set) l.first l.column l.initial.grid
