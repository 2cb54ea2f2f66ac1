-- How checks of lengths follow from each other, and from them a call's number: 3 where one fails, another where all hold.
use Rattle.std.specs.Prelude.{◌≡◌, Bool, ◌&&◌, ℕ, ◌≤◌, ◌<◌, eqb, leb}
use Rattle.std.proofs.Math.Path.{refl, sym}
use Rattle.std.proofs.Common.{subst, ◌∙◌, ⊎_elim, true≢false, arith, le-leb}
use Rattle.std.proofs.Math.Bool.{true, false}
use mathlib.Core.List.Memᴰ
use mathlib.Core.List.{List, [], ◌∷◌, Memᴰ}
use Rattle.std.proofs.lemmas.Bool.{eqb-false, lt-leb}
use Rattle.arith.specs.Booleans.{and_both, and_not_left, and_not_right, cond_elim}
use Rattle.record.specs.Numbers.{first, unless}
use Rattle.record.specs.Numbers.Laws.{unless_good, unless_bad, first_found}
use Rattle.unit.specs.Sizes.Lengths.{Buffer, Lengths}

-- ---- the check

-- after a test that came before, each of these buffers is at least as long as asked
abbrev pub fits : Lengths → Lengths → Bool → List Buffer → Bool
fits m z t [] = t
fits m z t (k ∷ ks) = fits m z (t && leb (m k) (z k)) ks

module _ (m z : Lengths) where
  pub fits_all : (t : Bool) (ks : List Buffer) → t ≡ true → ((k : Buffer) → Memᴰ k ks → m k ≤ z k) → fits m z t ks ≡ true
  fits_all t [] e h = e
  fits_all t (k ∷ ks) e h = fits_all (t && leb (m k) (z k)) ks (and_both t _ e (le-leb _ _ (h k (Memᴰ.head refl)))) (λ j i. h j (Memᴰ.tail i))

  fits_not : (t : Bool) (ks : List Buffer) → t ≡ false → fits m z t ks ≡ false
  fits_not t [] e = e
  fits_not t (k ∷ ks) e = fits_not (t && leb (m k) (z k)) ks (and_not_left t _ e)

  pub fits_short : (t : Bool) (ks : List Buffer) (k : Buffer) → Memᴰ k ks → z k < m k → fits m z t ks ≡ false
  fits_short t [] k i h = absurd (Memᴰ.not-nil i)
  fits_short t (j ∷ js) k i h =
      ⊎_elim (λ e. fits_not _ js (and_not_right t _ (lt-leb _ _ (subst (λ (b : Buffer). z b < m b) e h))))
      (λ i. fits_short (t && leb (m j) (z j)) js k i h)
      (Memᴰ.cases_cons i)

-- ---- a number that isn't 3

abbrev pub Other : ℕ → Type 0
Other n = n ≡ 3 → ⊥

pub other_unless : (t : Bool) (n : ℕ) → eqb n 3 ≡ false → Other (unless t n)
unfolding unless
other_unless t n h = cond_elim Other t 0 n (λ e q. omega arith) (λ e. eqb-false n 3 h)

pub other_first : {n later : ℕ} → Other n → Other later → Other (first n later)
unfolding first
other_first {n} {later} h k = cond_elim Other (eqb n 0) later n (λ e. k) (λ e. h)

-- ---- a number that is 3 exactly where a test fails

pub record Three (t : Bool) (n : ℕ) : Type 0 where
  pub good : t ≡ true → Other n
  pub bad : t ≡ false → n ≡ 3

-- the test's own number; any other, of no test
pub three : (t : Bool) → Three t (unless t 3)
three t = record { good = λ e q. omega (arith, unless_good t 3 e); bad = unless_bad t 3 }

pub three_other : {n : ℕ} → Other n → Three true n
three_other h = record { good = λ e. h; bad = λ e. absurd (true≢false e) }

-- other checks follow
pub three_first : {t : Bool} {n later : ℕ} → Three t n → Other later → Three t (first n later)
three_first {t} {n} {later} h k =
    record { good = λ e. other_first (h.good e) k; bad = λ e. first_found n later (λ q. omega (arith, h.bad e)) ∙ h.bad e }

-- more buffers are checked behind a test
module _ (m z : Lengths) (ks : List Buffer) where
  pub more : (t : Bool) → first (unless t 3) (unless (fits m z true ks) 3) ≡ unless (fits m z t ks) 3
  unfolding first unless
  more true = refl
  more false = sym (unless_bad _ 3 (fits_not m z false ks refl))

  pub three_more : (t : Bool) {n : ℕ} → Three (fits m z true ks) n → Three (fits m z t ks) (first (unless t 3) n)
  unfolding first unless
  three_more true h = h
  three_more false h = record { good = λ e. absurd (true≢false (sym e ∙ fits_not m z false ks refl)); bad = λ e. refl }
