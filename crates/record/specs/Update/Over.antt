-- What a payload leaves of a set that lies in a longer buffer: the set renewed, its surplus as it was.
use Rattle.std.specs.Prelude.{◌≡◌, refl, Bool, true, false, cond, ◌&&◌, ◌||◌, List, length, take, drop}
use Rattle.std.proofs.Math.Path.{sym}
use Rattle.std.proofs.Common.{◌∙◌, arith, eqb-true, length-drop, length-take-le}
use Prim.Native.Nat.{ℕ, ◌+◌, ◌≤◌}
use Rattle.std.proofs.Math.Dec.{eqb}
use Rattle.arith.specs.Booleans.{and_left, and_right, one_of}
use Rattle.arith.specs.Splice.{over}
use Rattle.arith.specs.Splice.Laws.{over_front_part}
use Rattle.record.specs.declared.shape.FieldShape.{FieldShape}
use Rattle.record.specs.Shape.{set_size}
use Rattle.record.specs.Update.{has_backward, has_forward, payload_number, renewed, backward_at, forward_at, backward_after, forward_after}
use Rattle.record.specs.Update.Laws.{backward_half, forward_half}

module _ (s : FieldShape) (p : List ℕ) where
  part_length : (at : ℕ) → at + set_size s ≤ length p → length (take (set_size s) (drop at p)) ≡ set_size s
  part_length at h = length-take-le (set_size s) (drop at p) (rw (length-drop at p) (omega arith))

  renewed_over : (at : ℕ) (set rest : List ℕ) → at + set_size s ≤ length p → length set ≡ set_size s → renewed s p at (over set rest) ≡ over (renewed s p at set) rest
  unfolding renewed
  renewed_over at set rest h e = over_front_part (take (set_size s) (drop at p)) set rest (part_length at h ∙ sym e)

  -- a set renewed on a condition that gives the payload its half
  renewed_if_over : (t : Bool) (at : ℕ) (set rest : List ℕ) → (t ≡ true → at + set_size s ≤ length p) → length set ≡ set_size s
      → cond t (renewed s p at (over set rest)) (over set rest) ≡ over (cond t (renewed s p at set) set) rest
  renewed_if_over true at set rest h e = renewed_over at set rest (h refl) e
  renewed_if_over false at set rest h e = refl

  pub backward_over_lem : (set rest : List ℕ) → length set ≡ set_size s
      → backward_after s p (payload_number s p) (over set rest) ≡ over (backward_after s p (payload_number s p) set) rest
  unfolding backward_after
  backward_over_lem set rest e =
      let n : ℕ = payload_number s p in
      renewed_if_over ((eqb n 0 || eqb n 6) && has_backward s) backward_at set rest
      (λ t. backward_half s p (one_of n 0 6 (and_left (eqb n 0 || eqb n 6) (has_backward s) t)) (and_right (eqb n 0 || eqb n 6) (has_backward s) t)) e

  pub forward_over_lem : (set rest : List ℕ) → length set ≡ set_size s
      → forward_after s p (payload_number s p) (over set rest) ≡ over (forward_after s p (payload_number s p) set) rest
  unfolding forward_after forward_at
  forward_over_lem set rest e =
      let n : ℕ = payload_number s p in
      renewed_if_over (eqb n 0 && has_forward s) (forward_at s) set rest
      (λ t. forward_half s p (eqb-true n 0 (and_left (eqb n 0) (has_forward s) t)) (and_right (eqb n 0) (has_forward s) t)) e
