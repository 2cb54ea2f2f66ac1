-- Bytes, and numbers in them, little endian (paper 01: 'fields little-endian').
use Rattle.std.specs.Prelude.{cond, List, [], ◌∷◌, ◌++◌, ℕ, ◌+◌, ◌*◌, ◌/◌, ◌%◌, ◌<◌, leb, ℤ, length, get_or, Option, Some, None}
use Rattle.std.specs.Int.{w16, w32}
use Rattle.std.proofs.Common.{to_z}
pub mod Laws

-- every value of a list is a byte
abbrev pub Bytes : List ℕ → Type 0
Bytes l = (k : ℕ) → get_or l k 0 < 256

-- the byte at i
abbrev pub byte_at : List ℕ → ℕ → ℕ
byte_at s i = get_or s i 0

-- two, three and four bytes from i on
unfoldable pub u16_at : List ℕ → ℕ → ℕ
u16_at s i = byte_at s i + 256 * byte_at s (i + 1)

unfoldable pub u24_at : List ℕ → ℕ → ℕ
u24_at s i = byte_at s i + 256 * byte_at s (i + 1) + 65536 * byte_at s (i + 2)

unfoldable pub u32_at : List ℕ → ℕ → ℕ
u32_at s i = byte_at s i + 256 * byte_at s (i + 1) + 65536 * byte_at s (i + 2) + 16777216 * byte_at s (i + 3)

-- the four bytes of a number below 2^32
unfoldable pub u32_bytes : ℕ → List ℕ
u32_bytes n = n % 256 ∷ (n / 256 % 256 ∷ (n / 65536 % 256 ∷ (n / 16777216 ∷ [])))

-- the eight bytes of two of them
unfoldable pub pair_bytes : ℕ → ℕ → List ℕ
pair_bytes a b = u32_bytes a ++ u32_bytes b

-- two and four bytes, read as signed
unfoldable pub i16_at : List ℕ → ℕ → ℤ
i16_at s i = to_z w16 (u16_at s i)

unfoldable pub i32_at : List ℕ → ℕ → ℤ
i32_at s i = to_z w32 (u32_at s i)

-- reading an i32: its value where the four bytes are all there, else nothing
unfoldable pub read_at : List ℕ → ℕ → Option ℤ
read_at s i = cond (leb (i + 4) (length s)) (Some (i32_at s i)) None
