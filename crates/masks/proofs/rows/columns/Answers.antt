-- `masks::rows::columns` meets its contract. The invariant: the sums of the columns below i are filled.
use Rattle.std.specs.Prelude.{◌≡◌}
use Rattle.std.proofs.Common.{arith, rules, to_z, of_z}
use Rattle.std.specs.Int.{w32}
use Rattle.arith.specs.Filling.{fill_start, fill_next}
use Rattle.masks.specs.Cover.Laws.{value_at, column_sum}
use Rattle.masks.proofs.Reading.{sum3_read}
use Rattle.masks.proofs.rows.columns.Goals as goal

pub loop-i-init : goal.loop-i-init
loop-i-init c = fill_start _ _

pub loop-i-preserved : goal.loop-i-preserved
unfolding column_sum
loop-i-preserved c =
    let l = c.loop-i in
    let a = c.args in
    let sum : to_z w32 (of_z w32 c.sum3.result) ≡ column_sum a.above.now a.middle.now a.below.now l.i =
    sum3_read (value_at a.above.now l.i) (value_at a.middle.now l.i) (value_at a.below.now l.i) _ (search rules) (search rules) (search rules) c.sum3.ensures in
    fill_next (column_sum a.above.now a.middle.now a.below.now) l.column a.column.now l.i _ (omega arith) sum l.invariant
