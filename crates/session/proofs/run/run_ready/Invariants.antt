-- `session::run::run_ready` meets its contract. The loop's invariant: the steps that are left, from session and buffers as they are, give what the whole
-- run gives from those at first; they are ready; and every buffer is the one that was lent, as long as it was.
use Prim.Native.Nat.{◌-◌}
use Rattle.session.proofs.Made.{Going}
use Rattle.state.specs.Lent.{held, SameReferences}
use Rattle.session.proofs.run.run_ready.Given as goal

abbrev pub invariant-loop : goal.invariant-loop
invariant-loop l =
    Going l.back l.length l.initial.current (held l.initial.buffers l.history) (l.length - l.counter) l.current (held l.buffers l.history)
    × SameReferences l.buffers l.initial.buffers
