-- The first run of a list that is read number by number, and the slots' gestures as such lists.
use Rattle.std.specs.Prelude.{◌≡◌, ◌≢◌, slice_index}
use Rattle.std.proofs.Math.Path.{refl, sym, ap}
use Rattle.std.proofs.Common.{◌∙◌, ne_eqb}
use mathlib.Core.List.{List, [], ◌∷◌}
use Prim.Native.Nat.{ℕ, zero, suc, ◌+◌, ◌-◌, ◌≤◌, ◌<◌}
use native.Mathlib.Omega.{arith}
use Rattle.std.proofs.Math.ListN.{length}
use Rattle.history.specs.History.{gesture_at}
use Rattle.runs.specs.Runs.{begins, leading, first_run}
use Rattle.runs.proofs.Laws.Runs.{leading_none, leading_more}
use Rattle.runs.specs.Slots.{gestures_back, gestures_ahead}

-- ---- the first run of a list that is read number by number

-- k numbers are g, and then another one or none: so many g's lead
leading_read : (g : ℕ) (l : List ℕ) (k : ℕ) → k ≤ length l → ((j : ℕ) → j < k → slice_index l j ≡ g) → (k < length l → slice_index l k ≢ g) → leading g l ≡ k
unfolding leading begins
leading_read g [] k h f q = omega arith
leading_read g (x ∷ l) zero h f q = leading_none g (x ∷ l) (ne_eqb x g (q (omega arith)))
leading_read g (x ∷ l) (suc k) h f q =
    leading_more g x l (f 0 (omega arith)) ∙ ap suc (leading_read g l k (omega arith) (λ j m. f (suc j) (omega arith)) (λ m. q (omega arith)))

-- the same of the first run, whose number is g
pub first_read : (l : List ℕ) (g k : ℕ) → 1 ≤ k → k ≤ length l → ((j : ℕ) → j < k → slice_index l j ≡ g) → (k < length l → slice_index l k ≢ g) → k ≡ first_run l
unfolding first_run
first_read [] g k o h f q = let z : ⊥ = omega arith in absurd z
first_read (x ∷ l) g zero o h f q = let z : ⊥ = omega arith in absurd z
first_read (x ∷ l) g (suc k) o h f q =
    let e : g ≡ x = sym (f 0 (omega arith)) in
    ap suc (sym (leading_read g l k (omega arith) (λ j m. f (suc j) (omega arith)) (λ m. q (omega arith))) ∙ ap (λ (y : ℕ). leading y l) e)

pub first_none : (l : List ℕ) → length l ≡ 0 → 0 ≡ first_run l
unfolding first_run
first_none [] e = refl
first_none (x ∷ l) e = let z : ⊥ = omega arith in absurd z

-- ---- the slots' gestures, by their distance from the line

module _ (h : List ℕ) where
  pub back_at : (n k : ℕ) → k < n → gesture_at h (n - 1 - k) ≡ slice_index (gestures_back h n) k
  unfolding gestures_back
  back_at zero k q = let z : ⊥ = omega arith in absurd z
  back_at (suc n) zero q = ap (gesture_at h) (omega arith)
  back_at (suc n) (suc k) q = ap (gesture_at h) (omega arith) ∙ back_at n k (omega arith)

  pub ahead_at : (from n k : ℕ) → k < n → gesture_at h (from + k) ≡ slice_index (gestures_ahead h from n) k
  unfolding gestures_ahead
  ahead_at from zero k q = let z : ⊥ = omega arith in absurd z
  ahead_at from (suc n) zero q = ap (gesture_at h) (omega arith)
  ahead_at from (suc n) (suc k) q = ap (gesture_at h) (omega arith) ∙ ahead_at (suc from) n k (omega arith)
