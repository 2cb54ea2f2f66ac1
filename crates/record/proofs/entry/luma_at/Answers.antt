-- `record::entry::luma_at` meets its contract.
use mathlib.Core.Path.{refl}
use Rattle.record.specs.Entries.{entry_at}
use Rattle.record.proofs.entry.luma_at.Goals as goal

pub returns : goal.returns
unfolding entry_at
returns c = refl
