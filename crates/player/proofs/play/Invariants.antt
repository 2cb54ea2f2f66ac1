-- `player::play` meets its contract: a record at each turn, until none begins or the answers are full; every buffer is the one that was lent.
use Rattle.std.specs.Prelude.{◌-◌, length}
use Rattle.state.specs.Lent.{held, SameReferences}
use Rattle.player.specs.Played.Laws.{Playing}
use Rattle.player.proofs.play.Given as goal

abbrev pub invariant-loop-size : goal.invariant-loop-size
invariant-loop-size l =
    record {
      playing : Playing l.initial.current l.list l.initial.answers (held l.initial.buffers l.initial.history) l.at l.count l.current l.answers (held l.buffers l.history);
      same_references : SameReferences l.buffers l.initial.buffers;
    }

abbrev pub decreases-loop-size : goal.decreases-loop-size
decreases-loop-size l = length l.initial.answers - l.count
