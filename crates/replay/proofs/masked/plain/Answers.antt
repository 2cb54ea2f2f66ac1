-- `masked::plain` is safe: the tests are what the plain scatter requires.
use Rattle.std.proofs.Common.{rules}
use Rattle.record.specs.Shape.Laws.{number_accepted}
use Rattle.scatter.specs.Geometry.Laws.{number_timed}
use Rattle.replay.proofs.masked.plain.Goals as goal

pub set_size-requires : goal.set_size-requires
set_size-requires c = number_accepted _ (search rules)

pub grid_size-requires : goal.grid_size-requires
grid_size-requires c = number_accepted _ (search rules)

pub scatter-requires : goal.scatter-requires
scatter-requires c =
    record {
      accepted = number_accepted _ (search rules);
      timed = number_timed _ (search rules);
      set_room = search rules;
      grid_room = search rules;
    }
