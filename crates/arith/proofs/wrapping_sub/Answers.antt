-- `arith::wrapping_sub` meets its contract: the bits of the two, and the one residue that their difference has.
use Rattle.std.proofs.Common.{◌≡◌, ℕ, ◌+◌, ◌-◌, ◌%◌, ◌<◌, ap, ap₂, ◌∙◌, arith, w32, to_z}
use Rattle.arith.specs.Wrap.{M, wrap32, res}
use Rattle.arith.specs.Wrap.Laws.{bits_res, res_lt, res_dif_is}
use Rattle.arith.proofs.wrapping_sub.Goals as goal

-- less q modulo 2^32 is what makes p again with q
taken_back : (p q : ℕ) → p < M → q < M → ((p + (M - q)) % M + q) % M ≡ p
taken_back p q h k = omega arith

pub returns : goal.returns
unfolding wrap32
returns c =
    let a = c.args.a in
    let b = c.args.b in
    let r : ℕ = (res a + (M - res b)) % M in
    ap (to_z w32)
    (ap₂ (λ (x y : ℕ). (x + (M - y)) % M) (bits_res a c.ranges.a) (bits_res b c.ranges.b)
    ∙ res_dif_is a b r (omega arith) (taken_back (res a) (res b) (res_lt a) (res_lt b)))
