-- `masks::sad::sad_lines` meets its contract. The invariant: y rows of the mask are filled.
use Rattle.std.specs.Prelude.{◌*◌}
use Rattle.masks.specs.Rows.{Rowed}
use Rattle.masks.specs.Sad.{sad_byte}
use Rattle.masks.proofs.sad.sad_lines.Given as goal

abbrev pub invariant-loop-y : goal.invariant-loop-y
invariant-loop-y l = Rowed (sad_byte l.levels.settings.sad l.levels.area l.n l.m l.set) l.w l.h l.initial.mask l.mask (l.y * l.w) l.y
