-- `masks::sad::sad_mask_ready` meets its contract: its numbers are the shape's, and the set is that of the side.
use Prim.Native.Nat.{ℕ, ◌≤◌}
use mathlib.Core.Path.{sym, subst}
use Rattle.masks.specs.Calls.Laws.{blocks_room, plane_room, sad_made}
use Rattle.masks.proofs.sad.sad_mask_ready.Goals as goal

pub sad_bytes-requires : goal.sad_bytes-requires
sad_bytes-requires c =
    let r = c.requires in
    let a = c.args in
    let x = r.sets.accepted.x in
    let y = r.sets.accepted.y in
    let n = c.columns-n.ensures in
    let m = c.rows-m.ensures in
    let w = c.packed_width-w.ensures in
    let h = c.packed_height-h.ensures in record {
      blocks_room = (
        subst (λ (k : ℕ). 1 ≤ k) (sym n) x.grid_range.least,
        subst (λ (k : ℕ). 1 ≤ k) (sym m) y.grid_range.least,
        blocks_room a.shape _ _ _ n m (sym c.set-set.ensures.1),
      );
      mask_room = plane_room a.shape _ _ _ w h r.mask_room;
    }

pub returns : goal.returns
returns c =
    let a = c.args in
    sad_made a.shape a.settings.sad a.side _ _ _ _ _ a.backward.now a.forward.now _ _ a.mask.now c.area-area.ensures.0 c.columns-n.ensures
    c.rows-m.ensures c.packed_width-w.ensures c.packed_height-h.ensures c.set-set.ensures.0 c.sad_bytes.ensures
