-- Laws of the score and the map.
use Rattle.std.specs.Prelude.{ℕ, max, List, ℤ, FitsSigned}
use Rattle.std.specs.Int.{w32}
use Rattle.arith.specs.Signed.{quot_fits}
use Rattle.arith.specs.Wrap.Laws.{wrap_fits}
use Rattle.maps.specs.Map.{score_of, score_at}
use Rattle.maps.specs.Map.Laws.{}

-- a score is an i32: the divisor is at least 1, so that the least i32 is never divided by -1
pub score_fits : (sad : ℤ) (average : ℕ) → FitsSigned w32 (score_of sad average)
unfolding score_of
score_fits sad average = quot_fits w32 _ (max average 1) (wrap_fits _)

pub score_at_fits : (set averages : List ℕ) (i : ℕ) → FitsSigned w32 (score_at set averages i)
unfolding score_at
score_at_fits set averages i = score_fits _ _
