-- `masks::rows::covers` meets its contract. The invariant: what is covered of the cells below x is filled.
use Rattle.std.specs.Prelude.{◌≡◌, ◌+◌}
use Rattle.std.proofs.Common.{ap, ◌∙◌, arith, rules}
use Rattle.std.specs.Int.{w32}
use Rattle.arith.specs.Filling.{fill_start, fill_next}
use Rattle.arith.specs.Signed.{answered}
use Rattle.masks.specs.Cover.{three_of, covered_of}
use Rattle.masks.specs.Cover.Laws.{value_at, covered_at}
use Rattle.masks.proofs.Reading.{sum3_read}
use Rattle.masks.proofs.rows.covers.Goals as goal

pub loop-x-init : goal.loop-x-init
loop-x-init c = fill_start _ _

pub covered-requires : goal.covered-requires
covered-requires c = c.requires.0

pub loop-x-preserved : goal.loop-x-preserved
unfolding covered_at three_of
loop-x-preserved c =
    let l = c.loop-x in
    let a = c.args in
    let k = value_at a.column.now in
    let sum = sum3_read (k l.x) (k (l.x + 1)) (k (l.x + 2)) _ (search rules) (search rules) (search rules) c.sum3.ensures in
    let value : c.covered.result ≡ covered_at a.area a.column.now l.x = c.covered.ensures.0 ∙ ap (covered_of a.area) sum in
    fill_next (covered_at a.area a.column.now) l.cover a.cover.now l.x _ (omega arith) (answered w32 c.covered.type_inv value) l.invariant
