-- `record::entry::sad_at` meets its contract: 24 bits fit an i32.
use native.Mathlib.Omega.{arith}
use mathlib.Core.Path.{ap, ◌∙◌}
use lib.IntN.{pos}
use mir.Syntax.{w32}
use mir.ValLaws.{to_z_pos}
use Rattle.record.specs.Entries.{entry_at}
use Rattle.record.proofs.entry.sad_at.Goals as goal

pub returns : goal.returns
unfolding entry_at
returns c = to_z_pos w32 c.u24_at.result (omega (arith, c.u24_at.ensures.1)) ∙ ap pos c.u24_at.ensures.0
