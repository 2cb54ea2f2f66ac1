-- `masks::sad_levels::fill` meets its contract. The invariant: the levels of the sads below k are filled.
use Rattle.std.specs.Prelude.{◌≡◌}
use Rattle.arith.specs.Splice.{over}
use Rattle.arith.specs.Tabulate.{tab}
use Rattle.levels.specs.Level.{sad_level}
use Rattle.masks.proofs.sad_levels.fill.Given as goal

abbrev pub invariant-loop-k : goal.invariant-loop-k
invariant-loop-k l = l.table ≡ over (tab (sad_level l.settings.sad l.area) l.k) l.initial.table
