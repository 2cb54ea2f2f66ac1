-- `pooling::sets::pool_side` meets its contract: the entries from `at` on, where the side is flagged.
use Rattle.std.proofs.Common.{◌*◌, sym, ◌∙◌, arith, length-take, length-drop}
use Rattle.arith.specs.Splice.{over}
use Rattle.arith.specs.Splice.Laws.{take_rest}
use Rattle.arith.specs.Tabulate.{tab}
use Rattle.record.specs.Shape.{set_size}
use Rattle.pooling.specs.Pool.{kept_byte}
use Rattle.pooling.specs.Pool.Laws.{flagged_new, unflagged_stays}
use Rattle.pooling.proofs.sets.pool_side.Goals as goal

pub pool_entries-requires : goal.pool_entries-requires
unfolding set_size
pool_entries-requires c =
    let n = c.blocks-n.ensures in
    let first = c.requires.2 c.if-flagged.true in
    let second = c.requires.3 c.if-flagged.true in
    (simp (length-take, length-drop) (omega (arith, n, first)), simp (length-take, length-drop) (omega (arith, n, second)), omega (arith, n, c.requires.1))

pub returns-then-flagged : goal.returns-then-flagged
unfolding set_size
returns-then-flagged c =
    let a = c.args in
    let p = a.first.now in
    let q = a.second.now in
    c.pool_entries.ensures
    ∙ (λ i. over (tab (kept_byte (take_rest p a.at i) (take_rest q a.at i)) (8 * c.blocks-n.ensures i)) a.set.now)
    ∙ sym (flagged_new _ _ _ _ _ _ c.if-flagged.true)

pub returns-else-flagged : goal.returns-else-flagged
returns-else-flagged c = sym (unflagged_stays _ _ _ _ _ _ c.if-flagged.false)
