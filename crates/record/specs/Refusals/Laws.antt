-- What the number of an outcome says of it, and how tests in turn hand one on.
use Rattle.std.specs.Prelude.{◌≡◌, ℕ, Result, Ok, Err, true, false, is_err, IsErrAnd, refl}
use Rattle.std.proofs.Common.{sym, ap, arith, true≢false}
use Rattle.record.specs.declared.refusal.Refusal.{Refusal}
use Rattle.record.specs.declared.refusal.Refusal.TheVariants.{Record, Shape, Room, Head, BackwardHalf, ForwardHalf, Range, Place, NothingPast, NothingFuture, Slots, Counts}
use Rattle.record.specs.Numbers.{first}
use Rattle.record.specs.Numbers.Laws.{first_zero, first_refused}
use Rattle.record.specs.Refusals.{code, number_of}

-- no refusal's number is 0
pub code_positive : (r : Refusal) → code r ≡ 0 → ⊥
code_positive Record e = omega arith
code_positive Shape e = omega arith
code_positive Room e = omega arith
code_positive Head e = omega arith
code_positive BackwardHalf e = omega arith
code_positive ForwardHalf e = omega arith
code_positive Range e = omega arith
code_positive Place e = omega arith
code_positive NothingPast e = omega arith
code_positive NothingFuture e = omega arith
code_positive Slots e = omega arith
code_positive Counts e = omega arith

-- a refusal that `?` hands on keeps its number
pub handed_on : {A : Type 0} (o : Result A Refusal) (r : Refusal) → IsErrAnd o (λ e. e ≡ r) → number_of o ≡ code r
handed_on (Ok a) r h = absurd h
handed_on (Err e) r h = ap code h

-- ---- two tests in turn

-- the first refuses, and that is the number of both
pub stops : (r : Refusal) {n : ℕ} (later : ℕ) → code r ≡ n → code r ≡ first n later
stops r later e = first_refused later e (code_positive r)

-- the first passes, and the second decides
pub goes_on : {n : ℕ} (later : ℕ) → 0 ≡ n → later ≡ first n later
goes_on {n} later e = sym (first_zero n later (sym e))

-- ---- an outcome that is looked at

pub outcome_accepted : {A : Type 0} (o : Result A Refusal) → is_err o ≡ false → number_of o ≡ 0
outcome_accepted (Ok a) e = refl
outcome_accepted (Err r) e = absurd (true≢false e)

pub outcome_refused : {A : Type 0} (o : Result A Refusal) → is_err o ≡ true → number_of o ≡ 0 → ⊥
outcome_refused (Ok a) e = absurd (true≢false (sym e))
outcome_refused (Err r) e = code_positive r
