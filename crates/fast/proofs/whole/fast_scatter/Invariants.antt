-- `fast::whole::fast_scatter` meets its contract. The loop's invariant: the rows before `row` have been added to the zeros.
use mathlib.Core.Path.{◌≡◌}
use Prim.Native.Nat.{◌*◌}
use Rattle.arith.specs.Integers.{up}
use Rattle.scatter.specs.Cells.{cells_at}
use Rattle.scatter.specs.Added.{added_run}
use Rattle.fast.proofs.whole.fast_scatter.Given as goal

abbrev pub invariant-loop-row : goal.invariant-loop-row
invariant-loop-row l = l.grid ≡ added_run (cells_at l.g.shape l.g.time l.set) 0 (l.row * up l.g.shape.grid_w) l.initial.grid
