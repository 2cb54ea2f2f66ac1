-- Two payloads for one shape, pooled (paper 02, request 3).
use Rattle.std.specs.Prelude.{Bool, cond, List, ℕ, ◌/◌, drop}
use Rattle.std.specs.Int.Signed.{le_z}
use Rattle.arith.specs.Splice.{over}
use Rattle.arith.specs.Tabulate.{tab}
use Rattle.record.specs.declared.shape.FieldShape.{FieldShape}
use Rattle.record.specs.Bytes.{byte_at}
use Rattle.record.specs.Entries.{entry_at}
use Rattle.record.specs.Numbers.{first}
use Rattle.record.specs.Shape.{set_size}
use Rattle.record.specs.Update.{has_backward, has_forward, payload_number, backward_at, forward_at}
pub mod Laws

-- the first payload's number, 4, 5 or 6; where it is accepted, the second's
unfoldable pub both_number : FieldShape → List ℕ → List ℕ → ℕ
both_number s p q = first (payload_number s p) (payload_number s q)

-- of two halves' entries of block i the first's is kept: its sad is smaller, or there is a tie
unfoldable pub first_kept : List ℕ → List ℕ → ℕ → Bool
first_kept p q i = le_z (entry_at p i).sad (entry_at q i).sad

-- byte k of the kept entries: all eight of a block come from one half
unfoldable pub kept_byte : List ℕ → List ℕ → ℕ → ℕ
kept_byte p q k = byte_at (cond (first_kept p q (k / 8)) p q) k

-- a set whose halves start at a place in both payloads: where its side is flagged the kept entry of each block, else as it was; its surplus stays
unfoldable pub pooled : FieldShape → Bool → ℕ → List ℕ → List ℕ → List ℕ → List ℕ
pooled s flagged at p q set = cond flagged (over (tab (kept_byte (drop at p) (drop at q)) (set_size s)) set) set

-- the two sets after two payloads that are accepted
unfoldable pub pooled_backward : FieldShape → List ℕ → List ℕ → List ℕ → List ℕ
pooled_backward s p q set = pooled s (has_backward s) backward_at p q set

unfoldable pub pooled_forward : FieldShape → List ℕ → List ℕ → List ℕ → List ℕ
pooled_forward s p q set = pooled s (has_forward s) (forward_at s) p q set
