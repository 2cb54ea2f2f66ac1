-- `history::write_last` meets its contract: the slot through one part, the later ones through another.
use Rattle.std.proofs.Common.{refl}
use Rattle.history.specs.History.Laws.{last_filled}
use Rattle.history.proofs.write_last.Goals as goal

pub returns : goal.returns
returns c =
    let a = c.args in
    last_filled a.depth a.k a.step a.history.now c.write_step.new.slot _ c.fill.new.self c.requires.0 c.requires.1 c.write_step.ensures refl
    (c.fill.ensures.after (λ y e. e))
