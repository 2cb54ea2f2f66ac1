-- `unit::data::no_sizes` meets its contract.
use mathlib.Core.Path.{refl}
use Rattle.unit.specs.Sizes.{no_sizes}
use Rattle.unit.proofs.data.no_sizes.Goals as goal

pub returns : goal.returns
unfolding no_sizes
returns c = refl
