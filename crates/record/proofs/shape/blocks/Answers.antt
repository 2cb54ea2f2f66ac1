-- `record::shape::blocks` meets its contract: the product of two sides of at most 1,024.
use Prim.Native.Nat.{◌*◌}
use Rattle.arith.specs.Integers.{mul_below}
use Rattle.record.specs.Shape.{blocks_of}
use Rattle.record.proofs.shape.blocks.Goals as goal

pub overflow_mul-result : goal.overflow_mul-result
overflow_mul-result c = record { fits = rw (c.columns.ensures, c.rows.ensures) (mul_below _ _ 1024 1024 18446744073709551616 c.requires.x.grid_range.most c.requires.y.grid_range.most tt) }

pub returns : goal.returns
unfolding blocks_of
returns c = λ i. c.columns.ensures i * c.rows.ensures i
