-- `masks::checks::check_settings` meets its contract: the first test that fails gives the number.
use Rattle.std.proofs.Common.{◌≡◌, sym, ap, ◌∙◌, ℤ}
use Rattle.std.specs.Prelude.{Bool, Float}
use Rattle.std.specs.Int.{w32}
use Rattle.std.proofs.Common.{SFits, to_z, of_z}
use Rattle.arith.specs.Signed.{back}
use Rattle.record.specs.Numbers.Laws.{unless_good, unless_bad}
use Rattle.record.specs.Refusals.Laws.{handed_on, stops, goes_on}
use Rattle.masks.specs.Calls.{settings_accepted, settings_number}
use Rattle.masks.proofs.checks.check_settings.Goals as goal

-- the settings that code judges
judged : (cover : ℤ) (scale : Float) (r : Bool) → SFits w32 cover → r ≡ settings_accepted (to_z w32 (of_z w32 cover)) scale → settings_accepted cover scale ≡ r
judged cover scale r f e = sym (e ∙ ap (λ (z : ℤ). settings_accepted z scale) (back w32 f))

pub returns-in_err-check_side : goal.returns-in_err-check_side
unfolding settings_number
returns-in_err-check_side c = handed_on _ _ c.from_residual.ensures.1 ∙ stops _ _ c.in_err-check_side.ensures

pub returns-then-not-settings_accepted : goal.returns-then-not-settings_accepted
unfolding settings_number
returns-then-not-settings_accepted c =
    sym (unless_bad _ 7 (judged c.args.cover c.args.scale _ c.ranges.cover c.settings_accepted.ensures ∙ c.if-not-settings_accepted.true)) ∙ goes_on _ c.in_ok-check_side.ensures

pub returns : goal.returns
unfolding settings_number
returns c =
    sym (unless_good _ 7 (judged c.args.cover c.args.scale _ c.ranges.cover c.settings_accepted.ensures ∙ c.if-not-settings_accepted.false)) ∙ goes_on _ c.in_ok-check_side.ensures
