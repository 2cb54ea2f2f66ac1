-- `masks::rows::covers` meets its contract. The invariant: what is covered of the cells below x is filled.
use Rattle.std.specs.Prelude.{◌≡◌}
use Rattle.arith.specs.Splice.{over}
use Rattle.arith.specs.Tabulate.{tab}
use Rattle.masks.specs.Cover.Laws.{covered_at}
use Rattle.masks.proofs.rows.covers.Given as goal

abbrev pub invariant-loop-x : goal.invariant-loop-x
invariant-loop-x l = l.cover ≡ over (tab (covered_at l.area l.column) l.x) l.initial.cover
