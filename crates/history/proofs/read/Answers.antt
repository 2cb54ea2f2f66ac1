-- `history::read` meets its contract: the part from slot k on.
use Prim.Native.Nat.{◌*◌}
use mathlib.Core.Path.{ap, ◌∙◌}
use Rattle.arith.specs.Splice.Laws.{take_rest}
use Rattle.history.specs.History.{slot_size, step_in, step_at}
use Rattle.history.proofs.read.Goals as goal

pub returns : goal.returns
unfolding step_at
returns c =
    let h = c.args.history.now in
    let k = c.args.k in
    c.read_step.ensures ∙ ap step_in (take_rest h (slot_size * k))
