-- What a payload's number says of the payload, and what update's number says of the rest.
use Rattle.std.specs.Prelude.{◌≡◌, ◌⊎◌, Bool, not, ◌&&◌, ◌||◌, List, ℕ, ◌+◌, ◌≤◌, ℤ, pos, length, Option, None}
use Rattle.std.proofs.Math.Path.{refl, ap}
use Rattle.std.proofs.Common.{sym, ◌∙◌, inl, inr}
use Rattle.std.proofs.Math.Bool.{true, false}
use Rattle.std.proofs.lemmas.Bool.{false≢true}
use native.Mathlib.Omega.{arith}
use borrow.Author.Tests.{leb-true}
use Rattle.std.proofs.Math.Dec.{eqb, leb}
use Rattle.arith.specs.Booleans.{and_right, and_not_right, cond_true, cond_false}
use Rattle.record.specs.declared.shape.FieldShape.{FieldShape}
use Rattle.record.specs.Bytes.{read_at}
use Rattle.record.specs.Numbers.{first, unless}
use Rattle.record.specs.Numbers.Laws.{unless_zero, first_zero, failed, both_zero}
use Rattle.record.specs.Shape.{shape_accepted, shape_number, set_size}
use Rattle.record.specs.Checks.{sets_number}
use Rattle.record.specs.Checks.Laws.{SetsReady, sets_ready}
use Rattle.record.specs.Update.{is_value, has_at, has_backward, has_forward, head_good, half_good, backward_good, forward_good, payload_number, renewed, backward_at, forward_at, backward_after, forward_after, update_number, updated, update_of}

-- a half that is asked for is there
asked : (bit half : Bool) → (not bit || half) ≡ true → bit ≡ true → half ≡ true
asked true half e b = e
asked false half e b = absurd (false≢true b)

module _ (s : FieldShape) (p : List ℕ) where
  -- a payload too short for its first i32 has no head
  pub head_missing : read_at p 0 ≡ None → payload_number s p ≡ 4
  unfolding payload_number head_good has_at is_value
  head_missing e = failed (head_good s p) 4 _ (ap (λ (r : Option ℤ). is_value r (pos 16) && has_at p 4 (pos 160) && has_at p 8 s.flags) e) (λ q. omega arith)

  half_room : (at : ℕ) → half_good s p at ≡ true → at + 4 + set_size s ≤ length p
  unfolding half_good
  half_room at e = leb-true (at + 4 + set_size s) (length p) (and_right (has_at p at _) _ e)

  -- accepted or refused by 6, a payload has its backward half
  pub backward_half : (payload_number s p ≡ 0) ⊎ (payload_number s p ≡ 6) → has_backward s ≡ true → 68 + set_size s ≤ length p
  unfolding payload_number backward_good first unless
  backward_half n b = half_room 64 (asked (has_backward s) (half_good s p 64) (go (head_good s p) (backward_good s p) (forward_good s p) n) b)
    where
      go : (h t f : Bool) → (first (unless h 4) (first (unless t 5) (unless f 6)) ≡ 0) ⊎ (first (unless h 4) (first (unless t 5) (unless f 6)) ≡ 6) → t ≡ true
      go h true f n = refl
      go true false f (inl n) = let z : ⊥ = omega arith in absurd z
      go true false f (inr n) = let z : ⊥ = omega arith in absurd z
      go false false f (inl n) = let z : ⊥ = omega arith in absurd z
      go false false f (inr n) = let z : ⊥ = omega arith in absurd z

  -- accepted, it has its forward half
  pub forward_half : payload_number s p ≡ 0 → has_forward s ≡ true → 72 + set_size s + set_size s ≤ length p
  unfolding payload_number forward_good
  forward_half n b =
      let later = (both_zero _ _ (both_zero _ _ n).1).1 in
      let h = half_room (68 + set_size s) (asked (has_forward s) _ (unless_zero _ 6 (λ q. omega arith) later) b) in
      omega arith

  -- neither 2 nor 3: shape and sets are ready, and the number is the payload's
  pub record Open (backward forward : ℕ) : Type 0 where
    pub sets : SetsReady s backward forward
    pub number : update_number s p backward forward ≡ payload_number s p

  pub update_open : (backward forward : ℕ) → (update_number s p backward forward ≡ 2 → ⊥) → (update_number s p backward forward ≡ 3 → ⊥) → Open backward forward
  unfolding update_number sets_number shape_number first unless
  update_open b f h k =
      let z = go (shape_accepted s) (leb (set_size s) b && leb (set_size s) f) (payload_number s p) h k in
      record { sets = sets_ready s b f z; number = first_zero _ _ z }
    where
      go : (shape room : Bool) (n : ℕ) → (first (first (unless shape 2) (unless room 3)) n ≡ 2 → ⊥) → (first (first (unless shape 2) (unless room 3)) n ≡ 3 → ⊥)
          → first (unless shape 2) (unless room 3) ≡ 0
      go false room n h k = absurd (h refl)
      go true false n h k = absurd (k refl)
      go true true n h k = refl

  -- ---- the sets after a payload, by its number

  pub backward_none : (n : ℕ) (set : List ℕ) → eqb n 0 ≡ false → eqb n 6 ≡ false → backward_after s p n set ≡ set
  unfolding backward_after
  backward_none n set h k = cond_false _ _ _ (λ i. (h i || k i) && has_backward s)

  pub backward_unflagged : (n : ℕ) (set : List ℕ) → has_backward s ≡ false → backward_after s p n set ≡ set
  unfolding backward_after
  backward_unflagged n set h = cond_false _ _ _ (and_not_right (eqb n 0 || eqb n 6) _ h)

  pub backward_new : (n : ℕ) (set : List ℕ) → (n ≡ 0) ⊎ (n ≡ 6) → has_backward s ≡ true → backward_after s p n set ≡ renewed s p backward_at set
  unfolding backward_after
  backward_new n set (inl e) b = cond_true _ _ _ (λ i. (eqb (e i) 0 || eqb (e i) 6) && b i)
  backward_new n set (inr e) b = cond_true _ _ _ (λ i. (eqb (e i) 0 || eqb (e i) 6) && b i)

  pub forward_none : (n : ℕ) (set : List ℕ) → eqb n 0 ≡ false → forward_after s p n set ≡ set
  unfolding forward_after
  forward_none n set h = cond_false _ _ _ (λ i. h i && has_forward s)

  pub forward_unflagged : (n : ℕ) (set : List ℕ) → has_forward s ≡ false → forward_after s p n set ≡ set
  unfolding forward_after
  forward_unflagged n set h = cond_false _ _ _ (and_not_right (eqb n 0) _ h)

  pub forward_new : (n : ℕ) (set : List ℕ) → n ≡ 0 → has_forward s ≡ true → forward_after s p n set ≡ renewed s p (forward_at s) set
  unfolding forward_after
  forward_new n set e b = cond_true _ _ _ (λ i. eqb (e i) 0 && b i)

  -- at any number but 0 and 6 both sets stay
  kept : (b f : List ℕ) (n : ℕ) → eqb n 0 ≡ false → eqb n 6 ≡ false → updated n b f ≡ updated n (backward_after s p n b) (forward_after s p n f)
  kept b f n h k = λ i. updated n (sym (backward_none n b h k) i) (sym (forward_none n f h) i)

  -- refused by 2 or 3, both sets stay
  pub update_refused : (b f : List ℕ) (n : ℕ) → n ≡ update_number s p (length b) (length f) → (n ≡ 2) ⊎ (n ≡ 3) → updated n b f ≡ update_of s p b f
  unfolding update_of
  update_refused b f n e q =
      kept b f n (other 0 refl refl q) (other 6 refl refl q) ∙ ap (λ (m : ℕ). updated m (backward_after s p m b) (forward_after s p m f)) e
    where
      other : (k : ℕ) → eqb 2 k ≡ false → eqb 3 k ≡ false → (n ≡ 2) ⊎ (n ≡ 3) → eqb n k ≡ false
      other k h l (inl q) = ap (λ (m : ℕ). eqb m k) q ∙ h
      other k h l (inr q) = ap (λ (m : ℕ). eqb m k) q ∙ l
