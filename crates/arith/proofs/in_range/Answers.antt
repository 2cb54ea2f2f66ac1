-- `arith::in_range` meets its contract: two orders in turn.
use Rattle.std.proofs.Common.{◌&&◌, ◌∙◌, w32}
use lib.Signed.{le_z}
use Rattle.arith.specs.Booleans.{by_test}
use Rattle.arith.specs.Signed.{back}
use Rattle.arith.proofs.in_range.Goals as goal

pub returns-then-low-value : goal.returns-then-low-value
returns-then-low-value c =
    let s = c in
    (λ i. le_z (back w32 s.ranges.value i) (back w32 s.ranges.high i))
    ∙ by_test (λ t. t && le_z s.args.value s.args.high) (rw (back w32 s.ranges.low, back w32 s.ranges.value) at c.if-low-value.true)

pub returns-else-low-value : goal.returns-else-low-value
returns-else-low-value c =
    let s = c in
    c.if-low-value.false ∙ by_test (λ t. t && le_z s.args.value s.args.high) (rw (back w32 s.ranges.low, back w32 s.ranges.value) at c.if-low-value.false)
