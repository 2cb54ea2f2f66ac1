-- `masks::rows::sum3` meets its contract: the inner wrap is lost in the outer one.
use mathlib.Core.Path.{◌∙◌}
use lib.IntN.{◌+ℤ◌}
use mir.Syntax.{w32}
use Rattle.arith.specs.Signed.{back, read}
use Rattle.arith.specs.Wrap.{wrap32}
use Rattle.arith.specs.Wrap.Laws.{wrap_fits, wrap_sum, wrapped_read}
use Rattle.masks.proofs.rows.sum3.Goals as goal

pub returns : goal.returns
returns c =
    let s = c in
    let inner = wrapped_read ◌+ℤ◌ s.ranges.a s.ranges.b c.wrapping_add.ensures in
    read w32 (c.wrapping_add-2.ensures ∙ (λ i. wrap32 (inner i +ℤ back w32 s.ranges.c i))) (wrap_fits _) ∙ wrap_sum (s.args.a +ℤ s.args.b) s.args.c
