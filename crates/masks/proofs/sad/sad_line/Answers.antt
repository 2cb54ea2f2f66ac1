-- `masks::sad::sad_line` meets its contract. The invariant: the bytes of the columns below x are filled.
use Rattle.std.specs.Prelude.{◌≡◌, ℕ, ◌-◌, min}
use Rattle.std.proofs.Common.{ap, ◌∙◌, arith}
use Rattle.arith.specs.Filling.{fill_start}
use Rattle.arith.specs.Splice.{over}
use Rattle.arith.specs.Tabulate.{tab}
use Rattle.masks.specs.Sad.Laws.{sad_line, line_next, line_rest}
use Rattle.masks.proofs.sad.sad_line.Goals as goal

pub loop-x-init : goal.loop-x-init
loop-x-init c = fill_start _ _

pub sad_at-sad-requires : goal.sad_at-sad-requires
sad_at-sad-requires c = let o = c.min-own.ensures in omega arith

pub loop-x-preserved : goal.loop-x-preserved
loop-x-preserved c =
    let l = c.loop-x in
    let a = c.args in
    let v = a.levels.now in
    let o = c.min-own.ensures in
    let k : min l.x (a.n - 1) ≡ l.x = omega arith in
    (line_next v.settings.sad v.area a.set.now a.first a.n a.row.now l.row l.x l.x _ _ (omega arith) k c.sad_at-sad.ensures.0 c.level.ensures
    (l.auto.row, l.invariant)).1

pub sad_at-last-requires : goal.sad_at-last-requires
sad_at-last-requires c = omega arith

pub returns-then-own-w : goal.returns-then-own-w
returns-then-own-w c =
    let l = c.loop-x in
    let a = c.args in
    let v = a.levels.now in
    let x : l.x ≡ c.min-own.result = omega arith in
    let row : l.row ≡ over (tab (sad_line v.settings.sad v.area a.set.now a.first a.n) c.min-own.result) a.row.now =
    l.invariant ∙ ap (λ (k : ℕ). over (tab (sad_line v.settings.sad v.area a.set.now a.first a.n) k) a.row.now) x in
    line_rest v.settings.sad v.area a.set.now a.first a.n a.w c.min-own.result c.min-own.ensures c.requires.blocks_room.0 a.row.now l.row c.fill.new.self _ _
    c.requires.row_room c.sad_at-last.ensures.0 c.level-then-own-w.ensures row (c.fill.ensures.after (λ y e. e))

pub returns-else-own-w : goal.returns-else-own-w
returns-else-own-w c =
    let l = c.loop-x in
    let a = c.args in
    let v = a.levels.now in
    let o = c.min-own.ensures in
    let x : l.x ≡ a.w = omega arith in
    l.invariant ∙ ap (λ (k : ℕ). over (tab (sad_line v.settings.sad v.area a.set.now a.first a.n) k) a.row.now) x
