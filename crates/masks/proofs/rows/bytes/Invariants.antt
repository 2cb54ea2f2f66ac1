-- `masks::rows::bytes` meets its contract. The invariant: the bytes of the cells below x are filled.
use Rattle.std.specs.Prelude.{◌≡◌, ℕ}
use Rattle.arith.specs.Splice.{over}
use Rattle.arith.specs.Tabulate.{tab}
use Rattle.levels.specs.Level.{cover_level}
use Rattle.masks.specs.Cover.Laws.{value_at}
use Rattle.masks.proofs.rows.bytes.Given as goal

abbrev pub invariant-loop-x : goal.invariant-loop-x
invariant-loop-x l = l.row ≡ over (tab (λ (k : ℕ). cover_level l.levels.settings.cover l.levels.area (value_at l.cover k)) l.x) l.initial.row
