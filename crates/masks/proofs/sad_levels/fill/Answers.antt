-- `masks::sad_levels::fill` meets its contract. The invariant: the levels of the sads below k are filled.
use Rattle.std.specs.Prelude.{◌+◌}
use Rattle.std.proofs.Common.{arith}
use Rattle.arith.specs.Filling.{fill_start, fill_next, filled_at}
use Rattle.levels.specs.Level.{sad_level}
use Rattle.masks.proofs.sad_levels.fill.Goals as goal

pub loop-k-init : goal.loop-k-init
loop-k-init c = fill_start _ _

pub returns-then-level-clause-filled : goal.returns-then-level-clause-filled
returns-then-level-clause-filled c k h =
    let l = c.loop-k in
    let a = c.args in
    let f = sad_level a.settings.sad a.area in
    filled_at f _ a.table.now (l.k + 1) k 0 (fill_next f l.table a.table.now l.k _ (omega arith) c.sad_level-level.ensures l.invariant) h

pub loop-k-preserved : goal.loop-k-preserved
loop-k-preserved c =
    let l = c.loop-k in
    fill_next (sad_level c.args.settings.sad c.args.area) l.table c.args.table.now l.k _ (omega arith) c.sad_level-level.ensures l.invariant

pub returns-clause-filled : goal.returns-clause-filled
returns-clause-filled c k h =
    let l = c.loop-k in
    let a = c.args in
    filled_at (sad_level a.settings.sad a.area) l.table a.table.now l.k k 0 l.invariant (omega arith)
