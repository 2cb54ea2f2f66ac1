-- `masks::checks::area` meets its contract: the product of two sides of 1 to 256.
use Prim.Native.Nat.{ℕ, ◌*◌, ◌≤◌}
use mathlib.Core.Path.{sym, ap₂, subst}
use lib.IntN.{ℤ, nat_abs}
use Rattle.arith.specs.Integers.{mul_below}
use Rattle.record.specs.Shape.{area_of}
use Rattle.record.specs.Shape.Laws.{shape_bounds, block_read, block_cast}
use Rattle.masks.proofs.checks.area.Goals as goal

pub overflow_cast-w : goal.overflow_cast-w
overflow_cast-w c = block_cast c.requires.x

pub overflow_cast-h : goal.overflow_cast-h
overflow_cast-h c = block_cast c.requires.y

pub overflow_mul-result : goal.overflow_mul-result
overflow_mul-result c =
    let a = c.requires in
    record { fits = rw (block_read a.x, block_read a.y) (mul_below _ _ 256 256 4294967296 a.x.block_range.most a.y.block_range.most tt) }

pub returns : goal.returns
unfolding area_of
returns c =
    let a = c.requires in
    let s = c.args.shape in
    let e = ap₂ (λ (x y : ℤ). nat_abs x * nat_abs y) (block_read a.x) (block_read a.y) in
    let n = shape_bounds s a in
    (e, subst (λ (k : ℕ). 1 ≤ k) (sym e) n.area_least, subst (λ (k : ℕ). k ≤ 65536) (sym e) n.area_most)
