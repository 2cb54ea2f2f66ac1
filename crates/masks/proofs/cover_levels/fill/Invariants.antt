-- `masks::cover_levels::fill` meets its contract. The invariant: the levels of 0 to k - 1 are filled.
use Rattle.std.specs.Prelude.{◌≡◌, ℕ, pos}
use Rattle.arith.specs.Splice.{over}
use Rattle.arith.specs.Tabulate.{tab}
use Rattle.levels.specs.Level.{cover_level}
use Rattle.masks.proofs.cover_levels.fill.Given as goal

abbrev pub invariant-loop-k : goal.invariant-loop-k
invariant-loop-k l = l.table ≡ over (tab (λ (j : ℕ). cover_level l.settings.cover l.area (pos j)) l.k) l.initial.table
