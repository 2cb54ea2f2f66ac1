-- `masks::cover_levels::CoverLevels::level` meets its contract: what is not negative is an index of the table.
use Rattle.std.specs.Prelude.{◌≡◌, ℤ, pos, nat_abs, get_or}
use Rattle.std.proofs.Common.{sym, ap, ◌∙◌}
use Rattle.std.specs.Int.{w32}
use Rattle.arith.specs.Integers.{up, not_negative}
use Rattle.arith.specs.Signed.{back}
use Rattle.levels.specs.Level.{cover_level}
use Rattle.masks.proofs.cover_levels.CoverLevels.level.Goals as goal

pub returns-then-covered-lt0 : goal.returns-then-covered-lt0
returns-then-covered-lt0 c = c.cover_level.ensures ∙ simp (back w32 c.ranges.covered)

pub returns : goal.returns
returns c =
    let v = c.args.self.now in
    let x = c.args.covered in
    let e = back w32 c.ranges.covered in
    let n : x ≡ pos (up x) = not_negative x (rw e at c.if-covered-lt0.false) in
    ap (λ (z : ℤ). get_or v.table.now (nat_abs z) 0) (e ∙ n)
    ∙ v.filled (up x) c.requires.0
    ∙ ap (cover_level v.settings.cover v.area) (sym n)
