-- A payload and what update makes of it (paper 01, 'Entries and update').
use Rattle.std.specs.Prelude.{Bool, false, cond, not, ◌&&◌, ◌||◌, List, ℕ, ◌+◌, ◌*◌, ◌/◌, ◌%◌, eqb, leb, ℤ, pos, length, take, drop, Option, Some, None}
use Rattle.arith.specs.Integers.{eqb_z}
use Rattle.arith.specs.Splice.{over}
use Rattle.arith.specs.Wrap.{res}
use Rattle.record.specs.declared.shape.FieldShape.{FieldShape}
use Rattle.record.specs.Bytes.{read_at}
use Rattle.record.specs.Numbers.{first, unless}
use Rattle.record.specs.Shape.{blocks_of, set_size}
use Rattle.record.specs.Checks.{sets_number}
pub mod Laws
pub mod Over

-- what was read is there and is z
unfoldable pub is_value : Option ℤ → ℤ → Bool
is_value (Some a) z = eqb_z a z
is_value None z = false

-- the payload has i32 z at a place
unfoldable pub has_at : List ℕ → ℕ → ℤ → Bool
has_at p at z = is_value (read_at p at) z

-- bits 0 and 1 of the flags, two's complement: a backward half, a forward half
unfoldable pub has_backward : FieldShape → Bool
has_backward s = eqb (res s.flags % 2) 1

unfoldable pub has_forward : FieldShape → Bool
has_forward s = eqb (res s.flags / 2 % 2) 1

-- a payload's head: three i32 from its start, 16, 160 and the flags of the shape
unfoldable pub head_good : FieldShape → List ℕ → Bool
head_good s p = has_at p 0 (pos 16) && has_at p 4 (pos 160) && has_at p 8 s.flags

-- a half: i32 2n+1 at a place, and n entries behind it
unfoldable pub half_good : FieldShape → List ℕ → ℕ → Bool
half_good s p at = has_at p at (pos (2 * blocks_of s + 1)) && leb (at + 4 + set_size s) (length p)

-- each half is asked for where its bit is set
unfoldable pub backward_good : FieldShape → List ℕ → Bool
backward_good s p = not (has_backward s) || half_good s p 64

unfoldable pub forward_good : FieldShape → List ℕ → Bool
forward_good s p = not (has_forward s) || half_good s p (68 + set_size s)

-- the payload's number, apart from any copying: 4 the head, 5 the backward half, 6 the forward half missing or wrong, 0 accepted
unfoldable pub payload_number : FieldShape → List ℕ → ℕ
payload_number s p = first (unless (head_good s p) 4) (first (unless (backward_good s p) 5) (unless (forward_good s p) 6))

-- where the entries of each half start, whichever bits are set
abbrev pub backward_at : ℕ
backward_at = 68

unfoldable pub forward_at : FieldShape → ℕ
forward_at s = 72 + set_size s

-- a set renewed by the n entries from a place on; its surplus stays
unfoldable pub renewed : FieldShape → List ℕ → ℕ → List ℕ → List ℕ
renewed s p at set = over (take (set_size s) (drop at p)) set

-- the two sets after a payload of a number: accepted, each flagged set is new; refused by 6, the backward set alone, if flagged;
-- one that is not flagged is as it was
unfoldable pub backward_after : FieldShape → List ℕ → ℕ → List ℕ → List ℕ
backward_after s p number set = cond ((eqb number 0 || eqb number 6) && has_backward s) (renewed s p backward_at set) set

unfoldable pub forward_after : FieldShape → List ℕ → ℕ → List ℕ → List ℕ
forward_after s p number set = cond (eqb number 0 && has_forward s) (renewed s p (forward_at s) set) set

-- the number of update: 2 the shape, 3 a set too short, else the payload's
unfoldable pub update_number : FieldShape → List ℕ → ℕ → ℕ → ℕ
update_number s p backward forward = first (sets_number s backward forward) (payload_number s p)

-- what update answers and leaves
pub record Updated : Type 0 where
  pub number : ℕ
  pub backward : List ℕ
  pub forward : List ℕ

abbrev pub updated : ℕ → List ℕ → List ℕ → Updated
updated number backward forward = record { number = number; backward = backward; forward = forward }

unfoldable pub update_of : FieldShape → List ℕ → List ℕ → List ℕ → Updated
update_of s p b f =
    let number : ℕ = update_number s p (length b) (length f) in
    updated number (backward_after s p number b) (forward_after s p number f)
