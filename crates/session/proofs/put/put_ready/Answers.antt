-- `session::put::put_ready` meets its contract: the entry stored and patched, the step recorded behind the past ones.
use mathlib.Core.Path.{◌≡◌}
use mathlib.Core.List.{[]}
use Prim.Native.Nat.{◌+◌, ◌≤◌}
use native.Mathlib.Omega.{arith}
use lib.ListN.{length}
use Rattle.history.specs.History.{depth_of}
use Rattle.history.specs.History.Laws.{depth_most_lem, depth_within, depth_some}
use Rattle.session.proofs.Made.{put_made}
use Rattle.state.proofs.Laws.Ready.{edit_ready}
use Rattle.state.specs.Calls.{with_history}
use Rattle.state.specs.Lent.{held}
use Rattle.session.proofs.put.put_ready.Goals as goal

pub edit-edited-requires : goal.edit-edited-requires
unfolding with_history
edit-edited-requires c =
    let r = c.requires in
    edit_ready c.args.s _ _ (held c.args.buffers.now c.args.history.now) [] r.ready r.within r.holds

pub append-requires : goal.append-requires
append-requires c =
    let a = c.args in
    let f = c.ranges in
    let r = c.requires in
    let n = length a.history.now in
    let e : c.depth-depth.result ≡ depth_of n = c.depth-depth.ensures in
    let k : a.s.past + a.s.future ≤ depth_of n = r.counts in (
      omega (arith, depth_some n r.ready.room.history),
      omega arith,
      omega (arith, depth_within n),
      record {
        block = f.block.fits;
        side = f.side.fits;
        old = c.edit-edited.ensures.holds;
        new = r.holds;
        gesture = f.gesture.fits;
      },
    )

pub recorded-requires : goal.recorded-requires
recorded-requires c = rw c.depth-depth.ensures (depth_most_lem _)

pub returns-clause-made : goal.returns-clause-made
unfolding with_history
returns-clause-made c =
    let a = c.args in
    put_made a.s _ a.side a.block a.v (held a.buffers.now a.history.now) _ c.edit-edited.ensures.edited
    a.gesture _ c.depth-depth.result _ c.edit-edited.result.old c.depth-depth.ensures c.edit-edited.ensures.old c.append.ensures c.recorded.ensures
