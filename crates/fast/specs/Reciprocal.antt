-- Division by a step of at most `widest` as multiplication by its reciprocal (paper 01, 'Scatter'), which is worked out by its formula (paper 02, request 4).
use Rattle.std.specs.Prelude.{◌≡◌, ℕ, ◌+◌, ◌-◌, ◌*◌, ◌/◌, ◌≤◌, ℤ, pos, nat_abs, ◌+ℤ◌}
use Rattle.arith.specs.Integers.{up}
use Rattle.scatter.specs.Block.{reach}
use Rattle.fast.specs.declared.divide.FloorDiv.{FloorDiv}
pub mod Laws

-- the largest divisor with a reciprocal, which is the largest step of a fast row
abbrev pub widest : ℕ
widest = 128

-- ceil(n / d), at n > 0 and d > 0
abbrev pub ceil_div : ℕ → ℕ → ℕ
ceil_div n d = (n - 1 + d) / d

-- the reciprocal of d: ceil(2^32 / d), at d > 0
unfoldable pub ceil_of : ℕ → ℕ
ceil_of d = ceil_div 4294967296 d

-- ceil(reach / d): times d, the least multiple of d that is no less than the reach, within which a value to be divided lies
unfoldable pub bias_of : ℕ → ℕ
bias_of d = ceil_div reach d

-- what a division by d needs
unfoldable pub floor_div_of : ℕ → FloorDiv
floor_div_of d = record { divisor = pos d; less = ceil_of d - 1; bias = pos (bias_of d); offset = pos (bias_of d * d) }

-- a value within the reach moved up by the offset, where it is a natural
unfoldable pub raised_of : ℕ → ℤ → ℕ
raised_of d v = up (v +ℤ pos (bias_of d * d))

-- ready to divide by 1 to `widest`
pub record DivReady (f : FloorDiv) : Type 0 where
  pub least : 1 ≤ nat_abs f.divisor
  pub most : nat_abs f.divisor ≤ widest
  pub is : f ≡ floor_div_of (nat_abs f.divisor)
