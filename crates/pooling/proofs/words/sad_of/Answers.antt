-- `pooling::words::sad_of` meets its contract.
use mathlib.Core.Path.{refl}
use Rattle.pooling.specs.Words.{sad_of}
use Rattle.pooling.proofs.words.sad_of.Goals as goal

pub returns : goal.returns
unfolding sad_of
returns c = refl
