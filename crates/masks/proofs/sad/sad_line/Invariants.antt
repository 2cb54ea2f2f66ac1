-- `masks::sad::sad_line` meets its contract. The invariant: the bytes of the columns below x are filled.
use Rattle.std.specs.Prelude.{◌≡◌}
use Rattle.arith.specs.Splice.{over}
use Rattle.arith.specs.Tabulate.{tab}
use Rattle.masks.specs.Sad.Laws.{sad_line}
use Rattle.masks.proofs.sad.sad_line.Given as goal

abbrev pub invariant-loop-x : goal.invariant-loop-x
invariant-loop-x l = l.row ≡ over (tab (sad_line l.levels.settings.sad l.levels.area l.set l.first l.n) l.x) l.initial.row
