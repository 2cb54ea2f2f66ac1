-- What holds where the number of a check is 0, and where it is.
use Rattle.std.specs.Prelude.{◌≡◌, Bool, true, false, ◌&&◌, ◌⊎◌, ℕ, ◌≤◌, leb, refl}
use Rattle.std.proofs.Common.{◌∙◌, arith, leb-true, le-leb, inl, inr}
use Rattle.arith.specs.Booleans.{and_both, both_le}
use Rattle.record.specs.declared.shape.FieldShape.{FieldShape}
use Rattle.record.specs.Numbers.{first, unless}
use Rattle.record.specs.Numbers.Laws.{both_zero, unless_zero, unless_good, first_zero}
use Rattle.record.specs.Entries.{side_accepted}
use Rattle.record.specs.Shape.{shape_accepted, shape_number, set_size}
use Rattle.record.specs.Shape.Laws.{Accepted, number_accepted, accepted_number}
use Rattle.record.specs.Checks.{sets_number, side_number}

-- a buffer of n values has its size, m
pub length_ready : (m n k : ℕ) → (k ≡ 0 → ⊥) → unless (leb m n) k ≡ 0 → m ≤ n
length_ready m n k h e = leb-true m n (unless_zero (leb m n) k h e)

-- two buffers, of k and of n values, have their sizes, j and m
pub lengths_ready : (j k m n : ℕ) → unless (leb j k && leb m n) 3 ≡ 0 → (j ≤ k) × (m ≤ n)
lengths_ready j k m n e = both_le j k m n (unless_zero (leb j k && leb m n) 3 (λ q. omega arith) e)

-- an accepted shape, and both sets long enough
pub record SetsReady (s : FieldShape) (backward forward : ℕ) : Type 0 where
  pub accepted : Accepted s
  pub backward_room : set_size s ≤ backward
  pub forward_room : set_size s ≤ forward

pub sets_ready : (s : FieldShape) (backward forward : ℕ) → sets_number s backward forward ≡ 0 → SetsReady s backward forward
unfolding sets_number
sets_ready s backward forward e =
    let z = both_zero (shape_number s) _ e in
    let l = lengths_ready (set_size s) backward (set_size s) forward z.1 in
    record { accepted = number_accepted s z.0; backward_room = l.0; forward_room = l.1 }

-- the number is 2 or 3 where it isn't 0
pub sets_refused : (s : FieldShape) (backward forward : ℕ) → (sets_number s backward forward ≡ 0 → ⊥) → (sets_number s backward forward ≡ 2) ⊎ (sets_number s backward forward ≡ 3)
unfolding sets_number shape_number first unless
sets_refused s b f = go (shape_accepted s) (leb (set_size s) b && leb (set_size s) f)
  where
    go : (shape room : Bool) → (first (unless shape 2) (unless room 3) ≡ 0 → ⊥) → (first (unless shape 2) (unless room 3) ≡ 2) ⊎ (first (unless shape 2) (unless room 3) ≡ 3)
    go false room h = inl refl
    go true false h = inr refl
    go true true h = absurd (h refl)

pub sets_number_lem : (s : FieldShape) (backward forward : ℕ) → shape_accepted s ≡ true → set_size s ≤ backward → set_size s ≤ forward → sets_number s backward forward ≡ 0
unfolding sets_number
sets_number_lem s backward forward a b f =
    first_zero _ _ (accepted_number s a)
    ∙ unless_good _ 3 (and_both (leb (set_size s) backward) (leb (set_size s) forward) (le-leb _ _ b) (le-leb _ _ f))

pub side_number_lem : (side : ℕ) → side_accepted side ≡ true → side_number side ≡ 0
unfolding side_number
side_number_lem side e = unless_good (side_accepted side) 8 e
