-- `fast::scale::exponent` meets its contract. The loop's invariant: no power below 2^k is the pel.
use Rattle.std.specs.Prelude.{ℕ, ◌^◌, ◌<◌, ◌≢◌}
use Rattle.fast.proofs.scale.exponent.Given as goal

abbrev pub invariant-loop-k : goal.invariant-loop-k
invariant-loop-k l = (j : ℕ) → j < l.k → 2 ^ j ≢ l.pel
