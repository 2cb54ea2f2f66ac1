-- `masks::rows::bytes` meets its contract. The invariant: the bytes of the cells below x are filled.
use Rattle.std.specs.Prelude.{ℕ}
use Rattle.std.proofs.Common.{ap, ◌∙◌, arith, rules, SFits}
use Rattle.std.specs.Int.{w32}
use Rattle.arith.specs.Filling.{fill_start, fill_next}
use Rattle.arith.specs.Signed.{back}
use Rattle.levels.specs.Level.{cover_level}
use Rattle.masks.specs.Cover.Laws.{value_at}
use Rattle.masks.proofs.rows.bytes.Goals as goal

pub loop-x-init : goal.loop-x-init
loop-x-init c = fill_start _ _

pub level-requires : goal.level-requires
level-requires c =
    let x = c.loop-x.x in
    let f : SFits w32 (value_at c.args.cover.now x) = search rules in
    let o = c.requires.covers x c.loop-x-test.true in
    (rw (back w32 f) o.0, rw (back w32 f) o.1)

pub loop-x-preserved : goal.loop-x-preserved
loop-x-preserved c =
    let l = c.loop-x in
    let a = c.args in
    let v = a.levels.now in
    let f : SFits w32 (value_at a.cover.now l.x) = search rules in
    fill_next (λ (k : ℕ). cover_level v.settings.cover v.area (value_at a.cover.now k)) l.row a.row.now l.x c.level.result (omega arith)
    (c.level.ensures ∙ ap (cover_level v.settings.cover v.area) (back w32 f)) l.invariant
