-- Tests in turn, each with the number of a call that it refuses; 0 is accepted (paper 01, 'Refused calls': 'Checked in this order').
use Rattle.std.specs.Prelude.{Bool, cond, ℕ, eqb}
pub mod Laws

-- the first number that is not 0
unfoldable pub first : ℕ → ℕ → ℕ
first n later = cond (eqb n 0) later n

-- a number where something fails
unfoldable pub unless : Bool → ℕ → ℕ
unless good n = cond good 0 n
