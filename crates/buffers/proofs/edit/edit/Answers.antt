-- `buffers::edit::edit` meets its contract: scored, stored, then patched on the shown side, then on either, and the counts adjusted.
use native.Mathlib.Omega.{arith}
use mathlib.Core.Path.{refl}
use lib.ListN.{length}
use mir.Syntax.{w32}
use Rattle.arith.specs.Signed.{read}
use Rattle.record.specs.Shape.Laws.{entry_room}
use Rattle.maps.proofs.Laws.Kept.{score_from_fits}
use Rattle.buffers.proofs.Made.{edit_made}
use Rattle.buffers.proofs.edit.edit.Goals as goal

pub score_from-before-requires : goal.score_from-before-requires
score_from-before-requires c = let r = c.requires in (r.accepted, r.within, r.backward, r.forward, r.table)

pub store-old-requires : goal.store-old-requires
store-old-requires c =
    let s = c.args.s.shape in
    let r = c.requires in
    (entry_room s _ _ r.within r.backward, entry_room s _ _ r.within r.forward, r.holds)

pub patch_shown-requires : goal.patch_shown-requires
patch_shown-requires c =
    let r = c.requires in
    let kb = c.store-old.auto.backward in
    let kf = c.store-old.auto.forward in
    record {
      accepted = r.accepted;
      timed = r.timed;
      within = r.within;
      backward_room = omega (arith, r.backward);
      forward_room = omega (arith, r.forward);
      grid_room = r.grid;
      x_room = r.xs;
      y_room = r.ys;
    }

pub patch_judged-after-requires : goal.patch_judged-after-requires
patch_judged-after-requires c =
    let r = c.requires in
    let kb = c.store-old.auto.backward in
    let kf = c.store-old.auto.forward in
    record {
      accepted = r.accepted;
      within = r.within;
      backward_room = omega (arith, r.backward);
      forward_room = omega (arith, r.forward);
      table_room = r.table;
      averages_room = r.averages;
      map_room = r.map;
    }

pub returns-clause-same_sizes : goal.returns-clause-same_sizes
returns-clause-same_sizes c =
    let b = c.args.buffers.now in
    let stored = c.store-old.auto in
    let shown = c.patch_shown.auto in
    let judged = c.patch_judged-after.auto in
    λ i. record {
      backward = stored.backward i;
      forward = stored.forward i;
      table = length b.table.now;
      grid = shown.grid i;
      xs = shown.xs i;
      ys = shown.ys i;
      averages = judged.averages i;
      map = judged.map i;
      history = 0;
    }

pub returns-clause-same_references : goal.returns-clause-same_references
returns-clause-same_references c =
    record {
      backward = refl;
      forward = refl;
      table = refl;
      grid = refl;
      xs = refl;
      ys = refl;
      averages = refl;
      map = refl;
      sizes = returns-clause-same_sizes c;
    }

pub returns-clause-old : goal.returns-clause-old
returns-clause-old c = c.store-old.ensures.old

pub returns-clause-holds : goal.returns-clause-holds
returns-clause-holds c = c.store-old.ensures.holds

pub returns-clause-edited : goal.returns-clause-edited
returns-clause-edited c =
    let a = c.args in
    let b = a.buffers.now in
    let k = read w32 c.score_from-before.ensures (score_from_fits _ _ _ _ _) in
    let n = read w32 c.patch_judged-after.ensures.score (score_from_fits _ _ _ _ _) in
    edit_made a.s a.side a.block a.v b.backward.now b.forward.now b.table.now b.grid.now b.xs.now b.ys.now b.averages.now b.map.now c.store-old.result _ _ _ _ _ _ _ _ _ _
    c.store-old.ensures.old c.store-old.ensures.backward c.store-old.ensures.forward c.patch_shown.ensures.grid c.patch_shown.ensures.planes c.patch_judged-after.ensures.averages c.patch_judged-after.ensures.map k n c.kept_moved-session.ensures
