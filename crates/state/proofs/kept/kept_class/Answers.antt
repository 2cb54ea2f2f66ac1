-- `state::kept::kept_class` meets its contract: counts that have passed are at most n.
use Rattle.std.proofs.Common.{sym}
use Rattle.state.specs.Kept.Laws.{kept_ready}
use Rattle.state.proofs.kept.kept_class.Goals as goal

pub class_of-requires : goal.class_of-requires
class_of-requires c = kept_ready _ (sym c.in_ok-check_kept.ensures)
