-- Integers modulo 2^32, read as signed ('modulo 2^32 (read as signed)' of paper 01).
use Rattle.std.specs.Prelude.{ℕ, ℤ}
use Rattle.std.specs.Int.{w32}
use Rattle.std.proofs.Common.{to_z}
use Rattle.arith.specs.Floor.{mod_n}
pub mod Laws

-- 2^32
abbrev pub M : ℕ
M = 4294967296

-- the residue of z modulo 2^32, from 0 to 2^32 - 1
unfoldable pub res : ℤ → ℕ
res z = mod_n z M

-- the number from -2^31 to 2^31 - 1 with that residue
unfoldable pub wrap32 : ℤ → ℤ
wrap32 z = to_z w32 (res z)
