-- `history::depth` meets its contract: the lesser of two counts.
use Rattle.history.specs.History.{depth_of}
use Rattle.history.proofs.depth.Goals as goal

pub returns : goal.returns
unfolding depth_of
returns c = c.min.ensures
