-- `record::entry::is_side` meets its contract: two tests in turn.
use mathlib.Core.Path.{◌∙◌}
use mathlib.Core.Bool.{◌||◌}
use borrow.Author.Tests.{eq-eqb, ne_eqb}
use lib.Dec.{eqb}
use Rattle.arith.specs.Booleans.{by_test}
use Rattle.record.specs.Entries.{side_accepted}
use Rattle.record.proofs.entry.is_side.Goals as goal

pub returns-then-side-eq1 : goal.returns-then-side-eq1
unfolding side_accepted
returns-then-side-eq1 c = let side = c.args.side in let e = eq-eqb side 1 c.if-side-eq1.true in e ∙ by_test (λ t. t || eqb side 2) e

pub returns-else-side-eq1 : goal.returns-else-side-eq1
unfolding side_accepted
returns-else-side-eq1 c = let side = c.args.side in by_test (λ t. t || eqb side 2) (ne_eqb side 1 c.if-side-eq1.false)
