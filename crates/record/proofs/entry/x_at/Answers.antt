-- `record::entry::x_at` meets its contract.
use mir.Syntax.{w16}
use Rattle.arith.specs.Signed.{answered}
use Rattle.record.specs.Entries.{entry_at}
use Rattle.record.proofs.entry.x_at.Goals as goal

pub returns : goal.returns
unfolding entry_at
returns c = answered w16 c.i16_at.type_inv c.i16_at.ensures
