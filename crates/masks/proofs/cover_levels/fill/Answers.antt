-- `masks::cover_levels::fill` meets its contract. The invariant: the levels of 0 to k - 1 are filled.
use Rattle.std.specs.Prelude.{ℕ, ◌+◌, pos}
use Rattle.std.proofs.Common.{ap, ◌∙◌, arith}
use Rattle.std.specs.Int.{w32}
use mir.ValLaws.{to_z_pos}
use Rattle.arith.specs.Filling.{fill_start, fill_next, filled_at}
use Rattle.levels.specs.Level.{cover_level}
use Rattle.masks.proofs.cover_levels.fill.Goals as goal

pub loop-k-init : goal.loop-k-init
loop-k-init c = fill_start _ _

pub cover_level-requires : goal.cover_level-requires
cover_level-requires c = rw (to_z_pos w32 c.loop-k.k (omega arith)) (omega arith)

pub loop-k-preserved : goal.loop-k-preserved
loop-k-preserved c =
    let l = c.loop-k in
    let a = c.args in
    fill_next (λ (j : ℕ). cover_level a.settings.cover a.area (pos j)) l.table a.table.now l.k c.cover_level.result (omega arith)
    (c.cover_level.ensures ∙ ap (cover_level a.settings.cover a.area) (to_z_pos w32 l.k (omega arith))) l.invariant

pub returns : goal.returns
returns c k h =
    let l = c.loop-k in
    let a = c.args in
    filled_at (λ (j : ℕ). cover_level a.settings.cover a.area (pos j)) l.table a.table.now l.k k 0 l.invariant (omega arith)

pub returns-2 : goal.returns-2
returns-2 c k h =
    let l = c.loop-k in
    let a = c.args in
    let f = λ (j : ℕ). cover_level a.settings.cover a.area (pos j) in
    let v = c.cover_level.ensures ∙ ap (cover_level a.settings.cover a.area) (to_z_pos w32 l.k (omega arith)) in
    filled_at f _ a.table.now (l.k + 1) k 0 (fill_next f l.table a.table.now l.k c.cover_level.result (omega arith) v l.invariant) (omega arith)
