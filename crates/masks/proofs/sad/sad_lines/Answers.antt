-- `masks::sad::sad_lines` meets its contract. The invariant: y rows of the mask are filled.
use Rattle.std.specs.Prelude.{ℕ, ◌+◌, ◌*◌, ◌≤◌, ◌<◌}
use Rattle.std.proofs.Common.{ap, arith, le_refl, length-take, length-drop}
use Rattle.arith.specs.Filling.{rows_within}
use Rattle.masks.specs.Rows.{lines_start, row_fits, line_next, rows_done}
use Rattle.masks.specs.Sad.{sad_bytes}
use Rattle.masks.specs.Sad.Laws.{sads_in_mask}
use Rattle.masks.proofs.sad.sad_lines.Goals as goal

-- the row of blocks lies within
blocks_in : (y n m k : ℕ) → y < m → 8 * (m * n) ≤ k → 8 * (y * n + n) ≤ k
blocks_in y n m k l e = omega (arith, rows_within y m n (m * n) l (le_refl _))

pub loop-y-init : goal.loop-y-init
loop-y-init c = lines_start _ _ _ _

pub overflow_mul-first : goal.overflow_mul-first
overflow_mul-first c =
    let h = blocks_in c.min.result c.args.n c.args.m _ (let o = c.min.ensures in omega arith) c.requires.blocks_room.2 in
    record { fits = omega arith }

pub sad_line-requires : goal.sad_line-requires
sad_line-requires c =
    let o = c.min.ensures in
    let h = row_fits c.loop-y.invariant c.requires.mask_room c.loop-y-test.true in record {
      blocks_room = (c.requires.blocks_room.0, blocks_in c.min.result c.args.n c.args.m _ (omega arith) c.requires.blocks_room.2);
      row_room = simp (length-take, length-drop) (omega arith);
    }

pub loop-y-preserved : goal.loop-y-preserved
loop-y-preserved c =
    let l = c.loop-y in
    let a = c.args in
    let v = a.levels.now in
    line_next l.invariant c.requires.mask_room _ _ c.loop-y-test.true
    (sads_in_mask v.settings.sad v.area a.n a.m a.w l.y _ a.set.now (ap (λ (j : ℕ). j * a.n) c.min.ensures))
    c.sad_line.ensures

pub returns : goal.returns
unfolding sad_bytes
returns c =
    let m = c.loop-y.invariant in
    rows_done m (omega (arith, c.loop-y-test.false, m.most))
