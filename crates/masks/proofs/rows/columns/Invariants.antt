-- `masks::rows::columns` meets its contract. The invariant: the sums of the columns below i are filled.
use Rattle.std.specs.Prelude.{◌≡◌}
use Rattle.arith.specs.Splice.{over}
use Rattle.arith.specs.Tabulate.{tab}
use Rattle.masks.specs.Cover.Laws.{column_sum}
use Rattle.masks.proofs.rows.columns.Given as goal

abbrev pub invariant-loop-i : goal.invariant-loop-i
invariant-loop-i l = l.column ≡ over (tab (column_sum l.above l.middle l.below) l.i) l.initial.column
