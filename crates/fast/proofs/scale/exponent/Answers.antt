-- `fast::scale::exponent` meets its contract. The loop's invariant: no power below 2^k is the pel.
use Rattle.std.specs.Prelude.{◌≡◌, ℕ, ◌+◌, ◌^◌, ◌<◌, ◌≢◌}
use Rattle.std.proofs.Common.{sym, ap, ◌∙◌, arith}
use Rattle.std.proofs.Math.Decide.{dec_lt}
use Rattle.fast.specs.Power.Laws.{one_shifted, power_first, power_none}
use Rattle.fast.proofs.scale.exponent.Goals as goal

pub loop-k-init : goal.loop-k-init
loop-k-init c = λ j h. absurd (omega arith)

pub returns-then-k-pel : goal.returns-then-k-pel
returns-then-k-pel c =
    let k = c.loop-k.k in
    power_first c.args.pel k c.loop-k-test.true c.loop-k.invariant (sym (one_shifted k (omega arith)) ∙ c.if-k-pel.true)

pub loop-k-preserved : goal.loop-k-preserved
loop-k-preserved c = λ j l. go j l (dec_lt j c.loop-k.k)
  where
    go : (j : ℕ) → j < c.loop-k.k + 1 → Dec (j < c.loop-k.k) → 2 ^ j ≢ c.args.pel
    go j l (yes m) = c.loop-k.invariant j m
    go j l (no m) =
        let e : j ≡ c.loop-k.k = omega arith in
        λ q. c.if-k-pel.false (one_shifted c.loop-k.k (omega arith) ∙ ap (λ (n : ℕ). 2 ^ n) (sym e) ∙ q)

pub returns : goal.returns
returns c = power_none c.args.pel (λ j h. c.loop-k.invariant j (omega arith))
