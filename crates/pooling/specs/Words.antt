-- The eight bytes of an entry as one number of 64 bits, as the code compares and copies them: y and x in its low half, sad and luma in its high one.
use Rattle.std.specs.Prelude.{cond, List, ℕ, ◌+◌, ◌/◌, ◌%◌, leb}
use Rattle.arith.specs.Tabulate.{tab}
use Rattle.record.specs.Bytes.{byte_at}
pub mod Laws

-- n bytes of a list, from a place on
unfoldable pub bytes_from : List ℕ → ℕ → ℕ → List ℕ
bytes_from l at n = tab (λ (j : ℕ). byte_at l (at + j)) n

-- y and x, and sad with luma
abbrev pub vector_of : ℕ → ℕ
vector_of word = word % 4294967296

abbrev pub extra_of : ℕ → ℕ
extra_of word = word / 4294967296

-- the sad: 24 bits, without the luma
unfoldable pub sad_of : ℕ → ℕ
sad_of word = extra_of word % 16777216

-- of two entries the one with the smaller sad, the first at a tie
unfoldable pub smaller_of : ℕ → ℕ → ℕ
smaller_of a b = cond (leb (sad_of a) (sad_of b)) a b
