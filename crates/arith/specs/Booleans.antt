-- Parts of a conjunction and of a disjunction, a conjunction from its parts, tests of numbers, and choices by a test.
use Rattle.std.specs.Prelude.{◌≡◌, ℕ, ◌≤◌, Bool, true, false, cond, ◌&&◌, ◌||◌, ◌⊎◌, ◌==◌, ◌≢◌, nat_le, refl}
use Rattle.std.proofs.Common.{sym, ap, ◌∙◌, inl, inr, ⊎_elim, eqb-true, eq-eqb, ne_eqb, leb-true}
use Rattle.std.proofs.Math.Bool.{and-eq-true_iff}
use Rattle.std.proofs.lemmas.Bool.{eqb-false}

pub and_left : (a b : Bool) → (a && b) ≡ true → a ≡ true
and_left a b e = ((and-eq-true_iff a b).0 e).0

pub and_right : (a b : Bool) → (a && b) ≡ true → b ≡ true
and_right a b e = ((and-eq-true_iff a b).0 e).1

pub and_both : (a b : Bool) → a ≡ true → b ≡ true → (a && b) ≡ true
and_both a b e f = (and-eq-true_iff a b).1 (e, f)

pub and_not_left : (a b : Bool) → a ≡ false → (a && b) ≡ false
and_not_left a b e = ap (λ (t : Bool). t && b) e

pub and_not_right : (a b : Bool) → b ≡ false → (a && b) ≡ false
and_not_right true b e = e
and_not_right false b e = refl

-- a disjunction holds by one of its parts
pub or_either : (a b : Bool) → (a || b) ≡ true → (a ≡ true) ⊎ (b ≡ true)
or_either true b e = inl refl
or_either false b e = inr e

-- a test that can't fail holds, and one that can't hold fails
pub is_true : (t : Bool) → (t ≢ false) → t ≡ true
is_true true h = refl
is_true false h = absurd (h refl)

pub is_false : (t : Bool) → (t ≢ true) → t ≡ false
is_false true h = absurd (h refl)
is_false false h = refl

-- ---- of numbers

-- two numbers compared in either order
pub eqb_either : (n k : ℕ) → (n == k) ≡ (k == n)
eqb_either n k = go (n == k) refl
  where
    go : (t : Bool) → (n == k) ≡ t → (n == k) ≡ (k == n)
    go true e = e ∙ sym (eq-eqb k n (sym (eqb-true n k e)))
    go false e = e ∙ sym (ne_eqb k n (λ q. eqb-false n k e (sym q)))

-- one of two
pub one_of : (n j k : ℕ) → (n == j || n == k) ≡ true → (n ≡ j) ⊎ (n ≡ k)
one_of n j k e = ⊎_elim (λ a. inl (eqb-true n j a)) (λ b. inr (eqb-true n k b)) (or_either (n == j) (n == k) e)

-- two orders
pub both_le : (j k m n : ℕ) → (nat_le j k && nat_le m n) ≡ true → (j ≤ k) × (m ≤ n)
both_le j k m n e = (leb-true j k (and_left (nat_le j k) (nat_le m n) e), leb-true m n (and_right (nat_le j k) (nat_le m n) e))

-- ---- choices

-- what holds of either arm, each where it is taken, holds of the choice
pub cond_elim {ℓ} : {A : Type ℓ} (P : A → Type 0) (t : Bool) (x y : A) → (t ≡ true → P x) → (t ≡ false → P y) → P (cond t x y)
cond_elim P true x y f g = f refl
cond_elim P false x y f g = g refl

-- a choice, once its test is known
pub cond_true {ℓ} : {A : Type ℓ} (t : Bool) (x y : A) → t ≡ true → cond t x y ≡ x
cond_true t x y e = ap (λ (b : Bool). cond b x y) e

pub cond_false {ℓ} : {A : Type ℓ} (t : Bool) (x y : A) → t ≡ false → cond t x y ≡ y
cond_false t x y e = ap (λ (b : Bool). cond b x y) e

-- a number that is 0 just where its test holds
pub cond_zero : (t : Bool) (n : ℕ) → (n ≢ 0) → cond t 0 n ≡ 0 → t ≡ true
cond_zero true n h e = refl
cond_zero false n h e = absurd (h e)

-- a test in an expression, once what it gives is known: of tests in turn, the first that fails settles them, and one that holds leaves the others
pub by_test {ℓ} : {A : Type ℓ} (f : Bool → A) {a v : Bool} → a ≡ v → f v ≡ f a
by_test f e = sym (ap f e)

-- a choice by a number that code has worked out: what it makes of the number is what the choice gives
module _ {ℓ} {A : Type ℓ} (t : ℕ → Bool) (x y : ℕ → A) (n m : ℕ) (e : n ≡ m) where
  pub picked_yes : t n ≡ true → x n ≡ cond (t m) (x m) (y m)
  picked_yes h = sym (cond_true (t n) (x n) (y n) h) ∙ ap (λ (k : ℕ). cond (t k) (x k) (y k)) e

  pub picked_no : t n ≡ false → y n ≡ cond (t m) (x m) (y m)
  picked_no h = sym (cond_false (t n) (x n) (y n) h) ∙ ap (λ (k : ℕ). cond (t k) (x k) (y k)) e
