-- `scatter::added::plus_at` meets its contract.
use Rattle.std.proofs.Common.{rules, ◌+ℤ◌}
use Rattle.scatter.specs.Added.{plus}
use Rattle.scatter.specs.Added.Laws.{set_wrapped}
use Rattle.scatter.proofs.added.plus_at.Goals as goal

pub returns : goal.returns
unfolding plus
returns c =
    let a = c.args in
    set_wrapped ◌+ℤ◌ a.grid.now a.at a.value _ (search rules) c.ranges.value c.wrapping_add.ensures
