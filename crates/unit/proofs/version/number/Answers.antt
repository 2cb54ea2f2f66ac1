-- `unit::version::number` meets its contract: the constants are those of the definition.
use mathlib.Core.Path.{refl}
use Rattle.unit.specs.Version.{version_number}
use Rattle.unit.proofs.version.number.Goals as goal

pub returns : goal.returns
unfolding version_number
returns c = refl
