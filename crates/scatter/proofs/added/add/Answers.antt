-- `scatter::added::add` meets its contract: the four, changed by one operation.
use Rattle.std.proofs.Common.{rules, ℤ, ◌+ℤ◌}
use Rattle.arith.specs.Wrap.{wrap32}
use Rattle.scatter.specs.Added.{Computes, changed, plus, minus, added}
use Rattle.scatter.proofs.added.add.Goals as goal

pub returns : goal.returns
unfolding Computes changed plus minus added
returns c = c.change.ensures (λ (x y : ℤ). wrap32 (x +ℤ y)) (λ x y r f h p. search rules)
