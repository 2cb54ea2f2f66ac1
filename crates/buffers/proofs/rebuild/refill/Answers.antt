-- `buffers::rebuild::refill` meets its contract: each part by its promise, the shown set by the laws of its front.
use mathlib.Core.Path.{◌≡◌, ap, ◌∙◌}
use native.Mathlib.Omega.{arith}
use lib.IntN.{ℤ}
use lib.ListN.{length}
use Rattle.arith.specs.Splice.{over}
use Rattle.record.specs.Entries.{set_of}
use Rattle.scatter.specs.Geometry.Laws.{time_back, timed_read}
use Rattle.scatter.specs.Grid.{grid_of}
use Rattle.history.specs.History.{depth_of}
use Rattle.history.specs.History.Laws.{depth_within}
use Rattle.buffers.proofs.Made.{rebuild_made}
use Rattle.buffers.proofs.rebuild.refill.Goals as goal

pub fill_grid-requires : goal.fill_grid-requires
fill_grid-requires c =
    let r = c.requires in
    (r.accepted, timed_read r.timed, r.room.backward, r.room.forward, r.room.grid)

pub fill_averages-requires : goal.fill_averages-requires
fill_averages-requires c =
    let r = c.requires in
    record { accepted = r.accepted; backward_room = r.room.backward; forward_room = r.room.forward; table_room = r.room.table; averages_room = r.room.averages }

pub fill_shown-counts-requires : goal.fill_shown-counts-requires
fill_shown-counts-requires c =
    let r = c.requires in
    let k = c.fill_averages.auto.averages in
    (r.accepted, r.room.backward, r.room.forward, omega (arith, r.room.averages), r.room.xs, r.room.ys, r.room.map)

pub clear-requires : goal.clear-requires
clear-requires c =
    let n = length c.args.history.now in
    let e : c.depth-depth.result ≡ depth_of n = c.depth-depth.ensures in
    omega (arith, depth_within n)

pub returns : goal.returns
returns c =
    let a = c.args in
    rebuild_made a.s a.backward.now a.forward.now a.table.now a.grid.now a.xs.now a.ys.now a.averages.now a.map.now a.history.now _ _ _ _ _ _ c.depth-depth.result _
    (c.fill_grid.ensures ∙ ap (λ (T : ℤ). over (grid_of a.s.shape T (set_of a.s.side a.backward.now a.forward.now)) a.grid.now) (time_back c.requires.timed))
    c.fill_averages.ensures c.fill_shown-counts.ensures.planes c.fill_shown-counts.ensures.map c.depth-depth.ensures c.clear.ensures c.fill_shown-counts.result c.fill_shown-counts.ensures.counts c.renewed.ensures
