-- `masks::rows::cover_lines` meets its contract. The invariant: y rows of the mask are filled.
use Rattle.std.specs.Prelude.{◌+◌, ◌*◌}
use Rattle.masks.specs.Rows.{Rowed}
use Rattle.masks.specs.Cover.{cover_at}
use Rattle.masks.specs.Cover.Laws.{value_at}
use Rattle.masks.proofs.rows.cover_lines.Given as goal

abbrev pub invariant-loop-y : goal.invariant-loop-y
invariant-loop-y l =
    Rowed (cover_at l.levels.settings.cover l.levels.area (l.w + 2) (value_at l.grid)) l.w l.h l.initial.mask l.mask (l.y * l.w) l.y
