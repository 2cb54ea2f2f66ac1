-- Laws of tests in turn: what each says of a number, and what a call is by its number.
use Rattle.std.specs.Prelude.{◌≡◌, Bool, true, false, cond, ℕ, ◌≤◌, ◌<◌, eqb, leb}
use Rattle.std.proofs.Common.{sym, ◌∙◌, arith, eq-eqb, ne_eqb, eqb-true, le-leb}
use Rattle.std.proofs.lemmas.Bool.{eqb-false, lt-leb}
use Rattle.arith.specs.Booleans.{cond_elim, cond_true, cond_false, cond_zero, picked_yes, picked_no}
use Rattle.record.specs.Numbers.{first, unless}

pub unless_good : (t : Bool) (n : ℕ) → t ≡ true → unless t n ≡ 0
unfolding unless
unless_good t n e = cond_true t 0 n e

pub unless_bad : (t : Bool) (n : ℕ) → t ≡ false → unless t n ≡ n
unfolding unless
unless_bad t n e = cond_false t 0 n e

-- where no number arises, the test held
pub unless_zero : (t : Bool) (n : ℕ) → (n ≡ 0 → ⊥) → unless t n ≡ 0 → t ≡ true
unfolding unless
unless_zero t n h e = cond_zero t n h e

pub first_zero : (n later : ℕ) → n ≡ 0 → first n later ≡ later
unfolding first
first_zero n later e = cond_true (eqb n 0) later n (eq-eqb n 0 e)

pub first_found : (n later : ℕ) → (n ≡ 0 → ⊥) → first n later ≡ n
unfolding first
first_found n later h = cond_false (eqb n 0) later n (ne_eqb n 0 h)

-- a number that code found is the first where it isn't 0
pub first_refused : {r n : ℕ} (later : ℕ) → r ≡ n → (r ≡ 0 → ⊥) → r ≡ first n later
first_refused {r} {n} later e h = e ∙ sym (first_found n later (λ z. h (e ∙ z)))

-- a test that holds is passed; one that fails gives its number
pub passed : (t : Bool) (n later : ℕ) → t ≡ true → first (unless t n) later ≡ later
passed t n later e = first_zero (unless t n) later (unless_good t n e)

pub failed : (t : Bool) (n later : ℕ) → t ≡ false → (n ≡ 0 → ⊥) → first (unless t n) later ≡ n
failed t n later e h = first_found (unless t n) later (λ q. h (sym (unless_bad t n e) ∙ q)) ∙ unless_bad t n e

-- where the first of two numbers is 0, both are
pub both_zero : (n later : ℕ) → first n later ≡ 0 → (n ≡ 0) × (later ≡ 0)
unfolding first
both_zero n later =
    cond_elim (λ (v : ℕ). v ≡ 0 → (n ≡ 0) × (later ≡ 0)) (eqb n 0) later n (λ t q. (eqb-true n 0 t, q)) (λ t q. absurd (eqb-false n 0 t q))

-- ---- a length

-- a buffer's length against a size that code has worked out
pub room : {size r n : ℕ} → r ≡ size → r ≤ n → leb size n ≡ true
room {size} {r} {n} e h = le-leb size n (omega arith)

pub no_room : {size r n : ℕ} → r ≡ size → n < r → leb size n ≡ false
no_room {size} {r} {n} e h = lt-leb size n (omega arith)

-- ---- a call

-- done where its number is 0, else kept with that number: n is the number that was found, m that of the definition
module _ {A : Type 0} (kept : ℕ → A) (done : A) (n m : ℕ) (said : n ≡ m) where
  pub call_refused : (n ≡ 0 → ⊥) → kept n ≡ cond (eqb m 0) done (kept m)
  call_refused h = picked_no (λ (k : ℕ). eqb k 0) (λ (k : ℕ). done) kept n m said (ne_eqb n 0 h)

  pub call_accepted : n ≡ 0 → done ≡ cond (eqb m 0) done (kept m)
  call_accepted h = picked_yes (λ (k : ℕ). eqb k 0) (λ (k : ℕ). done) kept n m said (eq-eqb n 0 h)
