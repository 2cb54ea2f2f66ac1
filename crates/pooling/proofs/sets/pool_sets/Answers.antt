-- `pooling::sets::pool_sets` meets its contract: each side by its flag bit, from where its halves start.
use mathlib.Core.Path.{◌≡◌, sym, ap, ◌∙◌}
use mathlib.Core.Bool.{Bool, true}
use mathlib.Core.Logic.{inl}
use Prim.Native.Nat.{◌+◌, ◌≤◌}
use native.Mathlib.Omega.{arith}
use lib.ListN.{length}
use Rattle.record.specs.Shape.{set_size}
use Rattle.record.specs.Update.{forward_at}
use Rattle.record.specs.Update.Laws.{backward_half, forward_half}
use Rattle.pooling.specs.Pool.{pooled, pooled_backward, pooled_forward}
use Rattle.pooling.proofs.sets.pool_sets.Goals as goal

pub pool_side-requires : goal.pool_side-requires
pool_side-requires c =
    let h = c.requires in
    let e = c.has_backward-backwards.ensures in
    (h.0, h.1, (λ t. backward_half _ _ (inl h.3) (sym e ∙ t)), (λ t. backward_half _ _ (inl h.4) (sym e ∙ t)))

pub pool_side-requires-2 : goal.pool_side-requires-2
pool_side-requires-2 c =
    let h = c.requires in
    let a = c.args in
    let e = c.has_forward-forwards.ensures in
    let n = c.set_size-at.ensures in
    let first : c.has_forward-forwards.result ≡ true → 72 + c.set_size-at.result + set_size a.shape ≤ length a.first.now =
    λ t. omega (arith, n, forward_half _ _ h.3 (sym e ∙ t)) in
    (h.0, h.2, first, (λ t. omega (arith, n, forward_half _ _ h.4 (sym e ∙ t))))

pub returns : goal.returns
unfolding pooled_backward pooled_forward forward_at
returns c =
    let a = c.args in
    let p = a.first.now in
    let q = a.second.now in (
      c.pool_side.ensures ∙ ap (λ (t : Bool). pooled a.shape t 68 p q a.backward.now) c.has_backward-backwards.ensures,
      c.pool_side-2.ensures ∙ (λ i. pooled a.shape (c.has_forward-forwards.ensures i) (72 + c.set_size-at.ensures i) p q a.forward.now),
    )
