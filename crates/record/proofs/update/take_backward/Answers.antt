-- `record::update::take_backward` meets its contract.
use Prim.Native.Nat.{ℕ}
use native.Mathlib.Omega.{arith}
use mathlib.Core.Path.{◌≡◌, refl, sym, ap, ◌∙◌}
use mathlib.Core.Bool.{true, false, ◌||◌}
use mathlib.Core.Logic.{◌⊎◌, inl, inr}
use borrow.Author.Tests.{eqb-true}
use lib.Dec.{eqb}
use lib.ListN.{take, drop}
use Rattle.arith.specs.Booleans.{cond_false, and_not_left}
use Rattle.arith.specs.Splice.{over}
use Rattle.record.specs.Update.{renewed, backward_after}
use Rattle.record.specs.Update.Laws.{backward_half, backward_unflagged, backward_new}
use Rattle.record.proofs.update.take_backward.Goals as goal

-- accepted or refused by 6
which : (n : ℕ) → (eqb n 0 || eqb n 6) ≡ true → (n ≡ 0) ⊎ (n ≡ 6)
which n e = go (eqb n 0) refl e
  where
    go : (t : _) → eqb n 0 ≡ t → (t || eqb n 6) ≡ true → (n ≡ 0) ⊎ (n ≡ 6)
    go true h k = inl (eqb-true n 0 h)
    go false h k = inr (eqb-true n 6 k)

pub returns-then-not-keeps_backward : goal.returns-then-not-keeps_backward
unfolding backward_after
returns-then-not-keeps_backward c = sym (cond_false _ _ _ (and_not_left _ _ (sym c.keeps_backward.ensures ∙ c.if-not-keeps_backward.true)))

pub returns-then-not-has_backward : goal.returns-then-not-has_backward
returns-then-not-has_backward c = sym (backward_unflagged _ _ _ _ (sym c.has_backward.ensures ∙ c.if-not-has_backward.true))

pub take_half-requires : goal.take_half-requires
take_half-requires c =
    let w = which _ (sym (λ i. eqb (c.requires.2 i) 0 || eqb (c.requires.2 i) 6) ∙ sym c.keeps_backward.ensures ∙ c.if-not-keeps_backward.false) in
    let h = backward_half _ _ w (sym c.has_backward.ensures ∙ c.if-not-has_backward.false) in
    (omega (arith, h, c.set_size-size.ensures), omega (arith, c.requires.1, c.set_size-size.ensures))

pub returns : goal.returns
unfolding renewed
returns c =
    let a = c.args in
    c.take_half.ensures
    ∙ ap (λ (n : ℕ). over (take n (drop 68 a.payload.now)) a.backward.now) c.set_size-size.ensures
    ∙ sym (backward_new _ _ _ _ (which _ (sym c.keeps_backward.ensures ∙ c.if-not-keeps_backward.false)) (sym c.has_backward.ensures ∙ c.if-not-has_backward.false))
