-- `player::open_and_play` meets its contract: a refused open plays nothing; after an accepted one the whole list is the machine's.
use Rattle.std.specs.Int.{w32}
use Rattle.arith.specs.Signed.{back}
use Rattle.state.specs.Lent.{held}
use Rattle.player.specs.Played.Laws.{begun_refused, begun_accepted}
use Rattle.player.proofs.open_and_play.Goals as goal

pub returns-then-number-ne0-clause-made : goal.returns-then-number-ne0-clause-made
returns-then-number-ne0-clause-made c =
    let a = c.args in
    begun_refused a.shape a.side a.limits a.time a.list.now a.answers.now (held a.buffers.now a.history.now) _ _ _ _ (back w32 c.ranges.time) c.open-opened.ensures.made c.if-number-ne0.true

pub returns-clause-made : goal.returns-clause-made
returns-clause-made c =
    let a = c.args in
    begun_accepted a.shape a.side a.limits a.time a.list.now a.answers.now (held a.buffers.now a.history.now) _ _ _ _ (back w32 c.ranges.time) c.open-opened.ensures.made c.if-number-ne0.false
    (λ k. (c.type_inv.list k).fits) _ c.play-count.ensures.made
