-- The floor of a quotient, and what is left over (paper 01, 'Scatter': qx = floor(tx / step x)).
use Rattle.std.specs.Prelude.{ℕ, suc, ◌-◌, ◌%◌, ℤ, pos, negsuc, unsigned_abs}
use Rattle.std.specs.Int.Signed.{shr_z}
pub mod Laws

-- floor of z / n, at n > 0: -1 / 8 is -1. It is the library's quotient that is rounded down
abbrev pub floor_n : ℤ → ℕ → ℤ
floor_n = shr_z

-- z less n times that floor, from 0 to n - 1
abbrev pub mod_n : ℤ → ℕ → ℕ
mod_n (pos a) n = a % n
mod_n (negsuc a) n = n - suc (a % n)

-- the same by a divisor that is an integer of at least 1
abbrev pub floor_z : ℤ → ℤ → ℤ
floor_z z d = floor_n z (unsigned_abs d)
