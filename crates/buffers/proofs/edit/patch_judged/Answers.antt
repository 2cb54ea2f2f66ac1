-- `buffers::edit::patch_judged` meets its contract: the average from both sets, and the score of the shown one with it.
use mathlib.Core.Path.{◌≡◌, ◌∙◌}
use Prim.Native.Nat.{◌<◌}
use native.Mathlib.Omega.{arith}
use lib.ListN.{length}
use mir.Syntax.{w32}
use Rattle.arith.specs.Signed.{read}
use Rattle.record.specs.Entries.{set_of, side_set}
use Rattle.record.specs.Shape.Laws.{entry_room}
use Rattle.maps.specs.Map.{score_at}
use Rattle.maps.specs.Map.Laws.{score_front}
use Rattle.maps.proofs.Laws.Kept.{score_from_fits, score_patched}
use Rattle.buffers.proofs.edit.patch_judged.Goals as goal

pub patch_average-requires : goal.patch_average-requires
patch_average-requires c =
    let a = c.args in
    let r = c.requires in
    let rb = entry_room a.s.shape a.block (length a.backward.now) r.within r.backward_room in
    let rf = entry_room a.s.shape a.block (length a.forward.now) r.within r.forward_room in
    (omega arith, omega arith, r.table_room, omega (arith, r.within, r.averages_room))

pub patch_map-requires : goal.patch_map-requires
patch_map-requires c =
    let a = c.args in
    let r = c.requires in
    let l = c.set.ensures.1 in
    let k : length c.patch_average.new.averages ≡ length a.averages.now = c.patch_average.auto.averages in
    (entry_room a.s.shape _ _ r.within (omega arith), omega (arith, r.within, r.averages_room), omega (arith, r.within, r.map_room))

pub returns-clause-score : goal.returns-clause-score
unfolding side_set
returns-clause-score c =
    let a = c.args in
    let s = a.s.shape in
    let w = c.requires.within in
    let k : a.block < length a.averages.now = omega (arith, w, c.requires.averages_room) in
    read w32
    (c.patch_map.ensures.0
    ∙ (λ i. score_at (c.set.ensures.0 i) (c.patch_average.ensures i) a.block)
    ∙ score_front s (set_of a.s.side a.backward.now a.forward.now) _ a.block w
    ∙ score_patched a.table.now a.s.side a.backward.now a.forward.now a.averages.now a.block k)
    (score_from_fits _ _ _ _ _)
