-- What holds of an accepted call that is lent two buffers beside both sets.
use Rattle.std.specs.Prelude.{◌≡◌, ℕ, ◌≤◌, ◌&&◌, nat_le}
use Rattle.record.specs.declared.shape.FieldShape.{FieldShape}
use Rattle.record.specs.Numbers.{first, unless}
use Rattle.record.specs.Numbers.Laws.{both_zero}
use Rattle.record.specs.Checks.{sets_number, side_number}
use Rattle.record.specs.Checks.Laws.{SetsReady, sets_ready, lengths_ready}

-- shape and sets are ready, and buffers of k and of n values hold j and m
pub record TwoReady (s : FieldShape) (backward forward j k m n : ℕ) : Type 0 where
  pub sets : SetsReady s backward forward
  pub one_room : j ≤ k
  pub other_room : m ≤ n

module _ (s : FieldShape) (backward forward j k m n : ℕ) where
  pub two_ready : sets_number s backward forward ≡ 0 → unless (nat_le j k && nat_le m n) 3 ≡ 0 → TwoReady s backward forward j k m n
  two_ready e f =
      let l = lengths_ready j k m n f in
      record { sets = sets_ready s backward forward e; one_room = l.0; other_room = l.1 }

  -- of a call that checks a side after them
  pub sided_ready : (side : ℕ) → first (sets_number s backward forward) (first (unless (nat_le j k && nat_le m n) 3) (side_number side)) ≡ 0
      → TwoReady s backward forward j k m n
  sided_ready side e =
      let z = both_zero (sets_number s backward forward) _ e in
      two_ready z.0 (both_zero _ (side_number side) z.1).0
