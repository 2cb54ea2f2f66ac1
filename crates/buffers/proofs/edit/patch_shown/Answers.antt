-- `buffers::edit::patch_shown` meets its contract: on the shown side the planes, by the law of their patch.
use mathlib.Core.Path.{sym, ap, ◌∙◌}
use mathlib.Core.List.{List}
use Prim.Native.Nat.{ℕ}
use lib.ListN.{take}
use borrow.Author.Tests.{eq-eqb}
use Rattle.arith.specs.Booleans.{cond_true}
use Rattle.record.specs.Entries.{set_of, side_set}
use Rattle.record.specs.Entries.Again.{entry_front}
use Rattle.record.specs.Shape.{set_size}
use Rattle.maps.specs.Change.{planes_by_entry}
use Rattle.maps.specs.Planes.{planes, planes_patched}
use Rattle.buffers.proofs.edit.patch_shown.Goals as goal

pub returns-clause-planes : goal.returns-clause-planes
unfolding side_set
returns-clause-planes c =
    let a = c.args in
    let X = set_of a.s.side a.backward.now a.forward.now in
    let p = planes a.xs.now a.ys.now in
    c.patch_planes.ensures
    ∙ ap (λ (l : List ℕ). planes_patched a.s.shape l a.block p) c.set.ensures.0
    ∙ planes_by_entry a.s.shape (take (set_size a.s.shape) X) X a.block p (entry_front a.s.shape X a.block c.requires.within)
    ∙ sym (cond_true _ _ p (eq-eqb a.side a.s.side c.if-side-s.false))
