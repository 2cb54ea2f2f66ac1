-- Lengths of lent buffers, and what it is for a call to check them (paper 01, 'Refused calls', number 3): what the laws of unit_sizes state.
use Rattle.std.specs.Prelude.{◌≡◌, ℕ, ◌≤◌, ◌<◌}
use mathlib.Core.List.{List, [], ◌∷◌, Memᴰ}
use Rattle.record.specs.declared.shape.FieldShape.{FieldShape}
use Rattle.state.specs.declared.session.Sizes.{Sizes}
use Rattle.unit.specs.declared.data.Least.{Least}
use Rattle.unit.specs.Sizes.{least_of}
pub mod Laws

-- the buffers that calls are lent: a session's nine, and a mask; the scratch of cover_mask is a grid
pub data Buffer : Type 0 where
  backward forward table grid xs ys averages map history mask : Buffer

-- a length for each
abbrev pub Lengths : Type 0
Lengths = Buffer → ℕ

-- those that unit_sizes answers
abbrev pub lengths_in : Least → Lengths
lengths_in l backward = l.sizes.backward
lengths_in l forward = l.sizes.forward
lengths_in l table = l.sizes.table
lengths_in l grid = l.sizes.grid
lengths_in l xs = l.sizes.xs
lengths_in l ys = l.sizes.ys
lengths_in l averages = l.sizes.averages
lengths_in l map = l.sizes.map
lengths_in l history = l.sizes.history
lengths_in l mask = l.mask

abbrev pub least_lengths : FieldShape → Lengths
least_lengths s = lengths_in (least_of s)

-- the buffers of a session, and their lengths as its calls take them
abbrev pub nine : List Buffer
nine = backward ∷ forward ∷ table ∷ grid ∷ xs ∷ ys ∷ averages ∷ map ∷ history ∷ []

abbrev pub sizes_in : Lengths → Sizes
sizes_in z =
    record {
      backward = z backward;
      forward = z forward;
      table = z table;
      grid = z grid;
      xs = z xs;
      ys = z ys;
      averages = z averages;
      map = z map;
      history = z history;
    }

-- a call that is lent these buffers, and has this number by their lengths, is refused by 3 exactly where one of them is shorter than unit_sizes
-- says, whatever the others are
pub record Checks (s : FieldShape) (lent : List Buffer) (number : Lengths → ℕ) : Type 0 where
  pub passes : (z : Lengths) → ((k : Buffer) → Memᴰ k lent → least_lengths s k ≤ z k) → number z ≡ 3 → ⊥
  pub fails : (z : Lengths) (k : Buffer) → Memᴰ k lent → z k < least_lengths s k → number z ≡ 3
