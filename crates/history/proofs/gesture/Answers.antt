-- `history::gesture` meets its contract: the slot's last four bytes, read in the whole history.
use mathlib.Core.Path.{◌≡◌, ◌∙◌}
use Prim.Native.Nat.{◌+◌, ◌*◌}
use Rattle.record.specs.Bytes.{u32_at}
use Rattle.history.specs.History.{slot_size}
use Rattle.history.specs.History.Laws.{gesture_there}
use Rattle.history.proofs.gesture.Goals as goal

pub returns : goal.returns
returns c =
    let a = c.args in
    let last : c.u32_at.result ≡ u32_at a.history.now (slot_size * a.k + 24) = c.u32_at.ensures in
    last ∙ gesture_there a.history.now a.k
