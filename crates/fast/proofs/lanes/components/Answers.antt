-- `fast::lanes::components` meets its contract. The loop's invariant: the first k lanes of both arrays are filled.
use Rattle.std.proofs.Common.{◌∙◌, arith, SFits}
use Rattle.std.specs.Int.{w16, w32}
use Rattle.arith.specs.Signed.{widened}
use Rattle.arith.specs.Filling.{fill_start, fill_next}
use Rattle.fast.specs.Lanes.{across_at, down_at}
use Rattle.fast.specs.Lanes.Laws.{x_most, y_most}
use Rattle.fast.proofs.lanes.components.Goals as goal

pub loop-k-init : goal.loop-k-init
loop-k-init c =
    let a = c.args in
    (fill_start (across_at a.set.now a.start) a.vx.now, fill_start (down_at a.set.now a.start) a.vy.now)

pub loop-k-preserved : goal.loop-k-preserved
loop-k-preserved c =
    let l = c.loop-k in
    let a = c.args in
    let f : SFits w16 c.x_at.result = record { sfits = c.x_at.type_inv } in
    let h : SFits w16 c.y_at.result = record { sfits = c.y_at.type_inv } in (
      fill_next (across_at a.set.now a.start) l.vx a.vx.now l.k _ (omega arith) (widened w16 w32 tt f ∙ c.x_at.ensures) l.invariant.0,
      fill_next (down_at a.set.now a.start) l.vy a.vy.now l.k _ (omega arith) (widened w16 w32 tt h ∙ c.y_at.ensures) l.invariant.1,
    )

pub returns-clause-small : goal.returns-clause-small
returns-clause-small c = ((λ i. x_most c.args.set.now i c.type_inv.set), λ i. y_most c.args.set.now i c.type_inv.set)
