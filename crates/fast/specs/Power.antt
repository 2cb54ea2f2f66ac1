-- Which pel is a power of two, and of which exponent (paper 01, 'Scatter': 'pel a power of two'; a pel is at most 64).
use Rattle.std.specs.Prelude.{Bool, cond, Option, List, [], ◌∷◌, ℕ, suc, ◌^◌, eqb, ltb}
use Rattle.std.specs.Bool.{then_some}
use Rattle.arith.specs.Tabulate.{tab}
pub mod Laws

-- the place of x in a list, or the list's length where x is not in it
unfoldable pub first_at : List ℕ → ℕ → ℕ
first_at [] x = 0
first_at (a ∷ l) x = cond (eqb a x) 0 (suc (first_at l x))

-- 1, 2, 4 .. 64
unfoldable pub powers : List ℕ
powers = tab (λ k. 2 ^ k) 7

-- the k with pel = 2^k, from 0 to 6, or 7 for a pel that is no power of two
unfoldable pub exponent_of : ℕ → ℕ
exponent_of pel = first_at powers pel

-- whether it is one
unfoldable pub is_power : ℕ → Bool
is_power pel = ltb (exponent_of pel) 7

-- the same k, where it is one
unfoldable pub power_of : ℕ → Option ℕ
power_of pel = then_some (is_power pel) (exponent_of pel)
