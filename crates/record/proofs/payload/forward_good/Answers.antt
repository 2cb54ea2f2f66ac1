-- `record::payload::forward_good` meets its contract: a half is asked for where its bit is set.
use Prim.Native.Nat.{ℕ, ◌+◌}
use native.Mathlib.Omega.{arith}
use mathlib.Core.Path.{sym, ap, ◌∙◌}
use mathlib.Core.Bool.{not, ◌||◌}
use Rattle.arith.specs.Booleans.{by_test}
use Rattle.record.specs.Shape.{set_size}
use Rattle.record.specs.Update.{half_good, forward_good}
use Rattle.record.specs.Shape.Laws.{shape_bounds}
use Rattle.record.proofs.payload.forward_good.Goals as goal

pub overflow_add-at : goal.overflow_add-at
unfolding set_size
overflow_add-at c = omega (arith, c.set_size-at.ensures, (shape_bounds c.args.shape c.requires).blocks_most)

pub half_good-requires : goal.half_good-requires
unfolding set_size
half_good-requires c = (c.requires, omega (arith, c.set_size-at.ensures, (shape_bounds c.args.shape c.requires).blocks_most))

pub returns-then-not-has_forward : goal.returns-then-not-has_forward
unfolding forward_good
returns-then-not-has_forward c =
    let a = c.args in
    ap not c.if-not-has_forward.true
    ∙ by_test (λ t. not t || half_good a.shape a.payload.now (68 + set_size a.shape)) (sym c.has_forward.ensures ∙ c.if-not-has_forward.true)

pub returns-else-not-has_forward : goal.returns-else-not-has_forward
unfolding forward_good
returns-else-not-has_forward c =
    let a = c.args in
    c.half_good.ensures
    ∙ ap (λ (n : ℕ). half_good a.shape a.payload.now (68 + n)) c.set_size-at.ensures
    ∙ by_test (λ t. not t || half_good a.shape a.payload.now (68 + set_size a.shape)) (sym c.has_forward.ensures ∙ c.if-not-has_forward.false)
