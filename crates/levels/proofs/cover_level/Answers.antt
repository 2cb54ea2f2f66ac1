-- `levels::cover_level` meets its contract: area - covered is an i32, and the operations are the definition's, in its order.
use native.Mathlib.Omega.{arith}
use mathlib.Core.Path.{◌≡◌, ap, ◌∙◌}
use lib.IntN.{ℤ, pos, ◌-ℤ◌}
use lib.Ieee.{binary64, of_int, mul, div}
use mir.Val.{SFits, to_z, of_z}
use mir.ValLaws.{to_z_pos}
use mir.Syntax.{w32}
use Rattle.arith.specs.Integers.{dif_z}
use Rattle.arith.specs.Signed.{back, bounds_fit, fits_by, read}
use Rattle.levels.specs.Level.{f256, level_of, cover_level, cover_value}
use Rattle.levels.proofs.cover_level.Goals as goal

whole_is : (c : goal.Start) → to_z w32 c.args.area ≡ pos c.args.area
whole_is c = to_z_pos w32 c.args.area (omega arith)

left_is : (c : goal.Start) → to_z w32 c.args.area -ℤ to_z w32 (of_z w32 c.args.covered) ≡ pos c.args.area -ℤ c.args.covered
left_is c = simp (whole_is c, back w32 c.ranges.covered)

left_fits : (c : goal.Start) → SFits w32 (pos c.args.area -ℤ c.args.covered)
left_fits c =
    let d = dif_z (pos c.args.area) c.args.covered in
    bounds_fit w32 (pos c.args.area -ℤ c.args.covered) (λ e. omega arith) (λ e. omega arith)

pub overflow_sub-left : goal.overflow_sub-left
overflow_sub-left c = fits_by (left_is c) (left_fits c)

pub returns : goal.returns
unfolding cover_level cover_value
returns c =
    let s = c in
    c.level.ensures
    ∙ ap
    (λ (left : ℤ). level_of (div binary64 (mul binary64 (mul binary64 (of_int binary64 left) s.args.settings.cover) f256) (of_int binary64 (pos s.args.area))))
    (read w32 (left_is s.before.before.before.before) (left_fits s.before.before.before.before))
