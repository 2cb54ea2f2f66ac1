-- `masks::checks::settings_accepted` meets its contract: both numbers are judged, in turn.
use Rattle.std.specs.Prelude.{◌&&◌, Bool}
use Rattle.std.proofs.Common.{sym, ap, ◌∙◌}
use Rattle.std.specs.Int.{w32}
use Rattle.arith.specs.Booleans.{by_test}
use Rattle.arith.specs.Signed.{back}
use Rattle.levels.specs.Level.{cover_accepted, sad_scale_accepted}
use Rattle.masks.specs.Calls.{settings_accepted}
use Rattle.masks.proofs.checks.settings_accepted.Goals as goal

pub returns-then-cover_accepted : goal.returns-then-cover_accepted
unfolding settings_accepted
returns-then-cover_accepted c =
    let e = sym (c.cover_accepted.ensures ∙ ap cover_accepted (back w32 c.ranges.cover)) ∙ c.if-cover_accepted.true in
    c.sad_scale_accepted.ensures ∙ by_test (λ (t : Bool). t && sad_scale_accepted c.args.scale) e

pub returns-else-cover_accepted : goal.returns-else-cover_accepted
unfolding settings_accepted
returns-else-cover_accepted c =
    let e = sym (c.cover_accepted.ensures ∙ ap cover_accepted (back w32 c.ranges.cover)) ∙ c.if-cover_accepted.false in
    c.if-cover_accepted.false ∙ by_test (λ (t : Bool). t && sad_scale_accepted c.args.scale) e
