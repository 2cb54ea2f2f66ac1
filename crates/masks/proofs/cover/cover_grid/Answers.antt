-- `masks::cover::cover_grid` meets its contract: its numbers are the shape's.
use Prim.Native.Nat.{ℕ, ◌≤◌}
use mathlib.Core.Path.{sym, subst}
use Rattle.record.specs.Shape.Laws.{shape_bounds}
use Rattle.masks.specs.Cover.Laws.{value_at}
use Rattle.masks.specs.Calls.Laws.{grid_room, plane_room, bytes_made}
use Rattle.masks.proofs.cover.cover_grid.Goals as goal

pub cover_bytes-requires : goal.cover_bytes-requires
cover_bytes-requires c =
    let s = c in
    let e = c.area-area.ensures in
    let w = c.packed_width-w.ensures in
    let h = c.packed_height-h.ensures in record {
      area_range = (e.1, e.2);
      width_most = subst (λ (k : ℕ). k ≤ 1025) (sym w) (shape_bounds s.args.shape s.requires.0).width_most;
      room = (grid_room s.args.shape _ _ _ w h s.requires.1, plane_room s.args.shape _ _ _ w h s.requires.2);
    }

pub returns : goal.returns
returns c =
    let a = c.args in
    bytes_made a.shape a.settings.cover _ _ _ (value_at a.grid.now) _ a.mask.now c.area-area.ensures.0 c.packed_width-w.ensures c.packed_height-h.ensures
    c.cover_bytes.ensures
