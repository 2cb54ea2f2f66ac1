-- `record::entry::set` meets its contract: the front of the set of that side.
use Rattle.record.specs.Entries.{set_of, side_set}
use Rattle.record.specs.Shape.{set_size}
use Rattle.record.specs.Entries.Laws.{length_side_set}
use mathlib.Core.Path.{◌≡◌, sym, ap, ◌∙◌}
use mathlib.Core.List.{List}
use Prim.Native.Nat.{ℕ}
use borrow.Author.Tests.{eq-eqb, ne_eqb}
use lib.ListN.{length, take}
use lib.Seq.{length-take-le}
use Rattle.arith.specs.Booleans.{cond_true, cond_false}
use Rattle.record.proofs.entry.set.Goals as goal
use Rattle.record.proofs.entry.set.Lts as lts
use Rattle.record.proofs.entry.set.Reads as reads
use Rattle.record.proofs.entry.set.Tie as tie

pub slice_bounds-result-end : goal.slice_bounds-result-end
slice_bounds-result-end c = sym (length-take-le _ _ (rw c.set_size-size.ensures c.requires.1))

-- the front of a list that is the set of the side
front_of : (s : lts.Start tie.the-claims reads.Pre reads.Post) (size : ℕ) (l : List ℕ) → let b = s.args.backward.now in let f = s.args.forward.now in size ≡ set_size s.args.shape
    → set_of s.args.side b f ≡ l → (take size l ≡ side_set s.args.shape s.args.side b f) × (length (take size l) ≡ set_size s.args.shape)
unfolding side_set
front_of s size l e p =
    let q : take size l ≡ side_set s.args.shape s.args.side s.args.backward.now s.args.forward.now = λ i. take (e i) (sym p i) in
    (q, ap length q ∙ length_side_set s.args.shape s.args.side _ _ s.requires.1 s.requires.2)

pub returns-then-side-eq1 : goal.returns-then-side-eq1
unfolding set_of
returns-then-side-eq1 c = front_of c.before.before.before.before.before _ _ c.set_size-size.ensures (cond_true _ _ _ (eq-eqb _ 1 c.if-side-eq1.true))

pub slice_bounds-result-end-2 : goal.slice_bounds-result-end-2
slice_bounds-result-end-2 c = sym (length-take-le _ _ (rw c.set_size-size.ensures c.requires.2))

pub returns : goal.returns
unfolding set_of
returns c = front_of c.before.before.before.before.before _ _ c.set_size-size.ensures (cond_false _ _ _ (ne_eqb _ 1 c.if-side-eq1.false))
