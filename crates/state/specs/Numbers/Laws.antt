-- The number of a shape, buffers and a shown side, where all of them are accepted; slots judged one after the other.
use Rattle.std.specs.Prelude.{◌≡◌, Bool, false, ◌&&◌, List}
use Rattle.std.proofs.Math.Path.{refl, ap, subst}
use Rattle.std.proofs.Common.{sym, ◌∙◌, add-one}
use Rattle.std.proofs.Math.Bool.{true}
use Prim.Native.Nat.{ℕ, zero, suc, ◌+◌, ◌-◌, ◌≤◌, ◌<◌}
use Rattle.std.proofs.Math.Decide.{dec_lt}
use native.Mathlib.Omega.{arith}
use Rattle.arith.specs.Booleans.{and_left, and_right, and_both}
use Rattle.record.specs.declared.shape.FieldShape.{FieldShape}
use Rattle.record.specs.Checks.Laws.{side_number_lem}
use Rattle.record.specs.Numbers.Laws.{first_zero, passed}
use Rattle.record.specs.Shape.{shape_accepted}
use Rattle.record.specs.Shape.Laws.{accepted_number}
use Rattle.record.specs.Entries.{side_accepted}
use Rattle.history.specs.History.{step_at}
use Rattle.state.specs.declared.session.Sizes.{Sizes}
use Rattle.state.specs.Numbers.{sized, slot_good, slots_good, shown_number}

pub shown_accepts : (s : FieldShape) (side : ℕ) (z : Sizes) → shape_accepted s ≡ true → sized s z ≡ true → side_accepted side ≡ true → shown_number s side z ≡ 0
unfolding shown_number
shown_accepts s side z a b c = first_zero _ _ (accepted_number s a) ∙ passed (sized s z) 3 _ b ∙ side_number_lem side c

-- ---- slots, one after the other

module _ (s : FieldShape) (h : List ℕ) where
  slots_one : (k n : ℕ) → 1 ≤ n → slots_good s h k n ≡ (slot_good s (step_at h k) && slots_good s h (k + 1) (n - 1))
  unfolding slots_good
  slots_one k zero q = let z : ⊥ = omega arith in absurd z
  slots_one k (suc n) q =
      let e : n ≡ suc n - 1 = omega arith in
      λ i. slot_good s (step_at h k) && slots_good s h (sym (add-one k) i) (e i)

  -- after i good slots: with no slot left all were good; one more good slot leaves the others; a bad one settles it
  module _ (k n i : ℕ) where
    pub slots_none : n ≤ i → slots_good s h (k + i) (n - i) ≡ true
    unfolding slots_good
    slots_none q = let z : n - i ≡ 0 = omega arith in ap (slots_good s h (k + i)) z

    pub slots_turn : i < n → slot_good s (step_at h (k + i)) ≡ true → slots_good s h (k + i) (n - i) ≡ slots_good s h (k + (i + 1)) (n - (i + 1))
    slots_turn q e =
        let p : k + i + 1 ≡ k + (i + 1) = omega arith in
        let m : n - i - 1 ≡ n - (i + 1) = omega arith in
        slots_one (k + i) (n - i) (omega arith) ∙ (λ j. e j && slots_good s h (p j) (m j))

    pub slots_bad : i < n → slot_good s (step_at h (k + i)) ≡ false → slots_good s h (k + i) (n - i) ≡ false
    slots_bad q e = slots_one (k + i) (n - i) (omega arith) ∙ ap (λ (t : Bool). t && slots_good s h (k + i + 1) (n - i - 1)) e

  -- where n slots are good, each of them is
  pub slots_each : (k n : ℕ) → slots_good s h k n ≡ true → (j : ℕ) → k ≤ j → j < k + n → slot_good s (step_at h j) ≡ true
  unfolding slots_good
  slots_each k zero e j l q = let z : ⊥ = omega arith in absurd z
  slots_each k (suc n) e j l q = go (dec_lt k j)
      (slots_each (suc k) n (and_right (slot_good s (step_at h k)) (slots_good s h (suc k) n) e) j)
    where
      go : Dec (k < j) → (suc k ≤ j → j < suc k + n → slot_good s (step_at h j) ≡ true) → slot_good s (step_at h j) ≡ true
      go (yes m) more = more (omega arith) (omega arith)
      go (no m) more =
          let same : k ≡ j = omega arith in
          subst (λ (i : ℕ). slot_good s (step_at h i) ≡ true) same (and_left (slot_good s (step_at h k)) (slots_good s h (suc k) n) e)

  -- one good slot before n good ones; and of n good slots any fewer
  pub slots_more : (k n : ℕ) → slot_good s (step_at h k) ≡ true → slots_good s h (suc k) n ≡ true → slots_good s h k (suc n) ≡ true
  unfolding slots_good
  slots_more k n e more = and_both _ _ e more

  pub slots_fewer : (k j n : ℕ) → j ≤ n → slots_good s h k n ≡ true → slots_good s h k j ≡ true
  unfolding slots_good
  slots_fewer k zero n l e = refl
  slots_fewer k (suc j) zero l e = let z : ⊥ = omega arith in absurd z
  slots_fewer k (suc j) (suc n) l e =
      slots_more k j (and_left (slot_good s (step_at h k)) (slots_good s h (suc k) n) e)
      (slots_fewer (suc k) j n (omega arith) (and_right (slot_good s (step_at h k)) (slots_good s h (suc k) n) e))

  pub slots_no : (k : ℕ) → slots_good s h k zero ≡ true
  unfolding slots_good
  slots_no k = refl
