-- `fast::row::fast_row` meets its contract. The loop's invariant: the blocks before `column` are added, but for what is held.
use mathlib.Core.Path.{◌≡◌}
use Prim.Native.Nat.{◌+◌, ◌-◌, ◌≤◌, ◌<◌}
use lib.ListN.{length}
use Rattle.scatter.specs.Cells.{cells_at}
use Rattle.scatter.specs.Added.{added_run}
use Rattle.fast.specs.Held.{released}
use Rattle.fast.proofs.row.fast_row.Given as goal

abbrev pub invariant-loop-column : goal.invariant-loop-column
invariant-loop-column l =
    (l.column ≤ l.columns)
    × (length l.grid ≡ length l.initial.grid)
    × (l.held.at + l.g.stride < length l.initial.grid)
    × (released l.g.stride l.held l.grid ≡ added_run (cells_at l.g.shape l.g.time l.set) l.first l.column l.initial.grid)

abbrev pub decreases-loop-column : goal.decreases-loop-column
decreases-loop-column l = l.columns - l.column
