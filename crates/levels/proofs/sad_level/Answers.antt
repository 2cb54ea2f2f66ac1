-- `levels::sad_level` meets its contract: the operations are the definition's, in its order.
use Rattle.levels.specs.Level.{sad_level, sad_value}
use Rattle.levels.proofs.sad_level.Goals as goal

pub returns : goal.returns
unfolding sad_level sad_value
returns c = c.level.ensures
