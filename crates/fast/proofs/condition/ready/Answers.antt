-- `fast::condition::ready` meets its contract: the fast row's condition is what the shift and both reciprocals require.
use mathlib.Core.Path.{sym, ap, ◌∙◌}
use Prim.Native.Nat.{◌+◌}
use native.Mathlib.Omega.{arith}
use lib.IntN.{ℤ, nat_abs}
use Rattle.arith.specs.Integers.{up}
use Rattle.record.specs.Shape.{step_x_of, step_y_of}
use Rattle.record.specs.Shape.Laws.{pel_cast}
use Rattle.scatter.specs.Geometry.Laws.{step_x_is, step_y_is}
use Rattle.fast.specs.Power.Laws.{exponent_below}
use Rattle.fast.specs.Condition.{fast_of}
use Rattle.fast.specs.Condition.Laws.{power_found, exponent_found, taken_power, taken_x, taken_y}
use Rattle.fast.specs.Reciprocal.{floor_div_of}
use Rattle.fast.proofs.condition.ready.Goals as goal

pub overflow_cast-pel : goal.overflow_cast-pel
overflow_cast-pel c = pel_cast c.args.g.shape c.requires.0.accepted

pub unwrap-shift-requires : goal.unwrap-shift-requires
unwrap-shift-requires c =
    let s = c.args.g.shape in
    sym (power_found s c.requires.0.accepted c.exponent.result c.exponent.ensures) ∙ taken_power s c.requires.1

pub overflow_add-shift : goal.overflow_add-shift
overflow_add-shift c =
    let s = c.args.g.shape in
    let e = exponent_found s c.requires.0.accepted c.exponent.result c.exponent.ensures c.unwrap-shift.result c.unwrap-shift.ensures in
    record { fits = omega (arith, e, exponent_below (up s.pel) (taken_power s c.requires.1)) }

pub overflow_cast-x : goal.overflow_cast-x
overflow_cast-x c =
    let s = c in
    let h = taken_x s.args.g.shape s.requires.1 in
    rw (step_x_is s.args.g s.requires.0) (tt, record { fits = omega arith })

pub overflow_cast-y : goal.overflow_cast-y
overflow_cast-y c =
    let s = c in
    let h = taken_y s.args.g.shape s.requires.1 in
    rw (step_y_is s.args.g s.requires.0) (tt, record { fits = omega arith })

pub new-across-requires : goal.new-across-requires
unfolding step_x_of
new-across-requires c =
    let s = c in
    rw (step_x_is s.args.g s.requires.0) (s.requires.0.accepted.x.step_range.least, taken_x s.args.g.shape s.requires.1)

pub new-down-requires : goal.new-down-requires
unfolding step_y_of
new-down-requires c =
    let s = c in
    rw (step_y_is s.args.g s.requires.0) (s.requires.0.accepted.y.step_range.least, taken_y s.args.g.shape s.requires.1)

pub returns : goal.returns
unfolding fast_of
returns c =
    let s = c in
    let g = s.args.g in
    let e = exponent_found g.shape s.requires.0.accepted c.exponent.result c.exponent.ensures c.unwrap-shift.result c.unwrap-shift.ensures in
    λ i. record {
      shift = 8 + e i;
      across = (c.new-across.ensures ∙ ap (λ (z : ℤ). floor_div_of (nat_abs z)) (step_x_is g s.requires.0)) i;
      down = (c.new-down.ensures ∙ ap (λ (z : ℤ). floor_div_of (nat_abs z)) (step_y_is g s.requires.0)) i;
    }
