-- `maps::class::weight` meets its contract: four tests as 0 or 1, and their products.
use Rattle.std.proofs.Common.{◌≡◌, ℕ, ◌-◌, ◌*◌, Bool, true, false, cond, not, ℤ, sym, refl, ap, ◌∙◌, ap₂, rules, w32, SFits, to_z, of_z}
use lib.Signed.{lt_z, le_z}
use Rattle.std.specs.Int.{from_bool}
use Rattle.maps.specs.declared.class.Counts.{Counts}
use Rattle.maps.specs.declared.map.SceneLimits.{SceneLimits}
use Rattle.maps.specs.Class.{tally, weight_of}
use Rattle.arith.specs.Integers.{le_z_true, le_z_false, lt_z_is_true, lt_z_is_false}
use Rattle.arith.specs.Signed.{back}
use Rattle.maps.proofs.class.weight.Goals as goal

-- the products of the four tests
abbrev weighed : ℕ → ℕ → ℕ → ℕ → Counts
weighed z s m n = tally z (z * s) ((z - z * s) * m) ((z - z * s - (z - z * s) * m) * n)

weighed_is : (z s m n : Bool) → weighed (from_bool z) (from_bool s) (from_bool m) (from_bool n)
    ≡ cond (not z) (tally 0 0 0 0) (cond s (tally 1 1 0 0) (cond m (tally 1 0 1 0) (cond n (tally 1 0 0 1) (tally 1 0 0 0))))
weighed_is false s m n = go s m n
  where
    go : (s m n : Bool) → weighed 0 (from_bool s) (from_bool m) (from_bool n) ≡ tally 0 0 0 0
    go true true true = refl
    go true true false = refl
    go true false true = refl
    go true false false = refl
    go false true true = refl
    go false true false = refl
    go false false true = refl
    go false false false = refl
weighed_is true true true true = refl
weighed_is true true true false = refl
weighed_is true true false true = refl
weighed_is true true false false = refl
weighed_is true false true true = refl
weighed_is true false true false = refl
weighed_is true false false true = refl
weighed_is true false false false = refl

-- a test as code reads its numbers back
read_bit : (r : ℕ) (a b : ℤ) → SFits w32 a → SFits w32 b → r ≡ from_bool (le_z (to_z w32 (of_z w32 a)) (to_z w32 (of_z w32 b))) → r ≡ from_bool (le_z a b)
read_bit r a b f g e = e ∙ ap from_bool (ap₂ le_z (back w32 f) (back w32 g))

-- below is not at least
below_is : (a b : ℤ) → lt_z a b ≡ not (le_z b a)
below_is a b = go (le_z b a) refl
  where
    go : (t : Bool) → le_z b a ≡ t → lt_z a b ≡ not t
    go true e = lt_z_is_false a b (le_z_true b a e)
    go false e = lt_z_is_true a b (le_z_false b a e)

weight_is : (l : SceneLimits) (score : ℤ) (z s m n : ℕ) → z ≡ from_bool (le_z l.zero score) → s ≡ from_bool (le_z l.scene score)
    → m ≡ from_bool (le_z l.m2 score) → n ≡ from_bool (le_z l.m1 score) → weighed z s m n ≡ weight_of l score
unfolding weight_of
weight_is l score z s m n ez es em en =
    (λ i. weighed (ez i) (es i) (em i) (en i))
    ∙ weighed_is (le_z l.zero score) (le_z l.scene score) (le_z l.m2 score) (le_z l.m1 score)
    ∙ ap
    (λ (t : Bool).
    cond t (tally 0 0 0 0)
    (cond (le_z l.scene score) (tally 1 1 0 0)
    (cond (le_z l.m2 score) (tally 1 0 1 0) (cond (le_z l.m1 score) (tally 1 0 0 1) (tally 1 0 0 0)))))
    (sym (below_is score l.zero))

pub returns : goal.returns
returns c =
    let a = c.args in
    let f = c.ranges.score in
    weight_is a.limits a.score c.from-counted.result c.from.result c.from-2.result c.from-3.result
    (read_bit c.from-counted.result a.limits.zero a.score (search rules) f c.from-counted.ensures)
    (read_bit c.from.result a.limits.scene a.score (search rules) f c.from.ensures)
    (read_bit c.from-2.result a.limits.m2 a.score (search rules) f c.from-2.ensures)
    (read_bit c.from-3.result a.limits.m1 a.score (search rules) f c.from-3.ensures)
