-- `history::clear` meets its contract: zeros over the front.
use Rattle.history.specs.History.{zero_slots, cleared}
use Rattle.history.specs.History.Laws.{filled_front}
use Rattle.history.proofs.clear.Goals as goal

pub returns : goal.returns
unfolding cleared zero_slots
returns c = filled_front _ c.args.history.now c.fill.new.self c.requires (c.fill.ensures.after (λ y e. e))
