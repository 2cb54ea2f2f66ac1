-- `record::update::take_forward` meets its contract.
use Prim.Native.Nat.{ℕ, ◌+◌}
use native.Mathlib.Omega.{arith}
use mathlib.Core.Path.{sym, ap, ◌∙◌}
use borrow.Author.Tests.{ne_eqb}
use lib.ListN.{take, drop}
use Rattle.arith.specs.Splice.{over}
use Rattle.record.specs.Refusals.Laws.{outcome_accepted, outcome_refused}
use Rattle.record.specs.Update.{renewed, forward_at}
use Rattle.record.specs.Update.Laws.{forward_none, forward_unflagged, forward_new, forward_half}
use Rattle.record.proofs.update.take_forward.Goals as goal

pub returns-then-is_err : goal.returns-then-is_err
returns-then-is_err c = sym (forward_none _ _ _ _ (ne_eqb _ 0 (outcome_refused c.args.outcome (sym c.is_err.ensures.value ∙ c.if-is_err.true))))

pub returns-then-not-has_forward : goal.returns-then-not-has_forward
returns-then-not-has_forward c = sym (forward_unflagged _ _ _ _ (sym c.has_forward.ensures ∙ c.if-not-has_forward.true))

pub take_half-requires : goal.take_half-requires
take_half-requires c =
    let n = outcome_accepted c.args.outcome (sym c.is_err.ensures.value ∙ c.if-is_err.false) in
    let h = forward_half _ _ (sym c.requires.2 ∙ n) (sym c.has_forward.ensures ∙ c.if-not-has_forward.false) in
    (omega (arith, h, c.set_size-size.ensures), omega (arith, c.requires.1, c.set_size-size.ensures))

pub returns : goal.returns
unfolding renewed forward_at
returns c =
    let a = c.args in
    let n = outcome_accepted a.outcome (sym c.is_err.ensures.value ∙ c.if-is_err.false) in
    c.take_half.ensures
    ∙ ap (λ (n : ℕ). over (take n (drop (72 + n) a.payload.now)) a.forward.now) c.set_size-size.ensures
    ∙ sym (forward_new _ _ _ _ n (sym c.has_forward.ensures ∙ c.if-not-has_forward.false))
