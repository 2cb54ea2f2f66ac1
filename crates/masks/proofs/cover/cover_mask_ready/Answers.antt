-- `masks::cover::cover_mask_ready` meets its contract: the set is that of the side, and the scratch then holds its grid.
use native.Mathlib.Omega.{arith}
use mathlib.Core.Path.{ap, ◌∙◌}
use lib.IntN.{ℤ}
use Rattle.arith.specs.Splice.{over}
use Rattle.scatter.specs.Geometry.Laws.{time_back, timed_read}
use Rattle.scatter.specs.Grid.{grid_of}
use Rattle.masks.specs.Calls.Laws.{cover_made}
use Rattle.masks.proofs.cover.cover_mask_ready.Goals as goal

pub scatter-requires : goal.scatter-requires
scatter-requires c =
    let r = c.requires in
    let l = c.set-set.ensures.1 in
    record { accepted = r.buffers.sets.accepted; timed = timed_read r.timed; set_room = omega arith; grid_room = r.scratch_room }

pub cover_grid-requires : goal.cover_grid-requires
cover_grid-requires c =
    let r = c.requires in
    (r.buffers.sets.accepted, omega (arith, r.scratch_room, c.scatter.auto.grid), r.buffers.mask_room)

pub returns : goal.returns
returns c =
    let s = c in
    let a = s.args in
    cover_made a.shape a.side a.backward.now a.forward.now a.settings.cover a.time _ _ a.scratch.now _ a.mask.now s.requires.buffers.sets.accepted
    c.set-set.ensures.0
    (c.scatter.ensures ∙ ap (λ (t : ℤ). over (grid_of a.shape t c.set-set.result.now) a.scratch.now) (time_back s.requires.timed))
    c.cover_grid.ensures
