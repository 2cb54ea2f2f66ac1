-- `masks::rows::cover_lines` meets its contract. The invariant: y rows of the mask are filled.
use Rattle.std.specs.Prelude.{refl, ℕ, ◌+◌, ◌*◌, ◌≤◌, ◌<◌}
use Rattle.std.proofs.Common.{arith, length-take, length-drop}
use Rattle.arith.specs.Filling.{rows_within, next_row}
use Rattle.masks.specs.Rows.{lines_start, row_fits, line_next, rows_done}
use Rattle.masks.specs.Cover.{cover_bytes}
use Rattle.masks.specs.Cover.Laws.{value_at, line_in_mask}
use Rattle.masks.proofs.rows.cover_lines.Goals as goal

-- the three rows of cells lie within
cells_in : (y h w n : ℕ) → y < h → (h + 2) * (w + 2) ≤ n → y * (w + 2) + 3 * (w + 2) ≤ n
cells_in y h w n l e = omega (arith, rows_within (y + 2) (h + 2) (w + 2) n (omega arith) e, next_row y (w + 2), next_row (y + 1) (w + 2))

pub loop-y-init : goal.loop-y-init
loop-y-init c = lines_start _ _ _ _

pub cover_line-requires : goal.cover_line-requires
cover_line-requires c =
    let h = row_fits c.loop-y.invariant c.requires.room.1 c.loop-y-test.true in record {
      width_most = c.requires.width_most;
      cells_room = cells_in c.loop-y.y c.args.h c.args.w _ c.loop-y-test.true c.requires.room.0;
      row_room = simp (length-take, length-drop) (omega arith);
    }

pub loop-y-preserved : goal.loop-y-preserved
loop-y-preserved c =
    let l = c.loop-y in
    let a = c.args in
    line_next l.invariant c.requires.room.1 _ _ c.loop-y-test.true
    (line_in_mask a.levels.now.settings.cover a.levels.now.area a.w l.y (l.y * (a.w + 2)) (value_at a.grid.now) refl)
    c.cover_line.ensures

pub returns : goal.returns
unfolding cover_bytes
returns c =
    let m = c.loop-y.invariant in
    rows_done m (omega (arith, c.loop-y-test.false, m.most))
