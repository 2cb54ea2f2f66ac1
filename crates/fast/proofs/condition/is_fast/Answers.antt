-- `fast::condition::is_fast` meets its contract: each test that fails settles it, and the last one is what is left.
use Rattle.std.specs.Prelude.{ℤ, pos, not}
use Rattle.std.proofs.Common.{sym, ap, ◌∙◌, arith}
use Rattle.std.specs.Int.Signed.{le_z, lt_z}
use borrow.Author.Tests.{le-leb, lt-leb}
use Rattle.arith.specs.Integers.{lt_z_true, lt_z_false}
use Rattle.record.specs.Shape.{step_x_of}
use Rattle.record.specs.Shape.Laws.{pel_cast}
use Rattle.scatter.specs.Geometry.Laws.{step_x_is, step_y_is}
use Rattle.fast.specs.Reciprocal.{widest}
use Rattle.fast.specs.Condition.Laws.{power_found, not_power, not_x, all_but_y}
use Rattle.fast.proofs.condition.is_fast.Goals as goal

pub overflow_cast-pel : goal.overflow_cast-pel
overflow_cast-pel c = pel_cast c.args.g.shape c.requires.accepted

pub returns-then-is_none : goal.returns-then-is_none
returns-then-is_none c =
    let s = c.args.g.shape in
    not_power s (power_found s c.requires.accepted c.exponent.result c.exponent.ensures ∙ c.is_none.ensures ∙ ap not c.if-is_none.true)

pub returns-then-widest-g : goal.returns-then-widest-g
returns-then-widest-g c =
    let g = c.args.g in
    let h = lt_z_true (pos widest) (pos (step_x_of g.shape)) (ap (λ (z : ℤ). lt_z (pos widest) z) (sym (step_x_is g c.requires)) ∙ c.if-widest-g.true) in
    not_x g.shape (lt-leb (step_x_of g.shape) widest (omega arith))

pub returns : goal.returns
returns c =
    let g = c.args.g in
    let p = power_found g.shape c.requires.accepted c.exponent.result c.exponent.ensures ∙ c.is_none.ensures ∙ ap not c.if-is_none.false in
    let hx = lt_z_false (pos widest) (pos (step_x_of g.shape)) (ap (λ (z : ℤ). lt_z (pos widest) z) (sym (step_x_is g c.requires)) ∙ c.if-widest-g.false) in
    ap (λ (z : ℤ). le_z z (pos widest)) (step_y_is g c.requires)
    ∙ all_but_y g.shape p (le-leb (step_x_of g.shape) widest (omega arith))
