-- `arith::wrapping_mul` meets its contract: the bits of the two, and the residue of their product.
use Rattle.std.proofs.Common.{ℕ, ◌*◌, ◌%◌, sym, ap, ap₂, ◌∙◌, w32, to_z}
use Rattle.arith.specs.Wrap.{M, wrap32}
use Rattle.arith.specs.Wrap.Laws.{bits_res, res_prod}
use Rattle.arith.proofs.wrapping_mul.Goals as goal

pub returns : goal.returns
unfolding wrap32
returns c =
    let a = c.args.a in
    let b = c.args.b in
    ap (to_z w32) (ap₂ (λ (x y : ℕ). (x * y) % M) (bits_res a c.ranges.a) (bits_res b c.ranges.b) ∙ sym (res_prod a b))
