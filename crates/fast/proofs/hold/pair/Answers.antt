-- `fast::hold::pair` meets its contract.
use mathlib.Core.Path.{ap, ◌∙◌}
use Prim.Native.Nat.{◌+◌}
use mir.Syntax.{w32}
use Rattle.arith.specs.Signed.{back}
use Rattle.scatter.specs.Added.{plus}
use Rattle.fast.specs.Held.{paired}
use Rattle.fast.proofs.hold.pair.Goals as goal

pub returns : goal.returns
unfolding paired
returns c =
    c.plus_at-2.ensures
    ∙ (λ j. plus ((c.plus_at.ensures ∙ ap (plus c.args.grid.now c.args.at) (back w32 c.ranges.top)) j) (c.args.at + c.args.stride) (back w32 c.ranges.bottom j))
