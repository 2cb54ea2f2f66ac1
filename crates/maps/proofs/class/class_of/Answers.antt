-- `maps::class::class_of` meets its contract: three tests, in order.
use Rattle.std.proofs.Common.{◌≡◌, ℕ, Bool, ℤ, pos, sym, ap, ◌∙◌, w32, SFits, to_z, of_z}
use lib.Signed.{le_z}
use Rattle.arith.specs.Signed.{back, read}
use Rattle.maps.specs.Class.{required_of, grade_of, class_of}
use Rattle.maps.specs.Class.Laws.{required_fits}
use Rattle.maps.proofs.class.class_of.Goals as goal

-- a test's outcome, of a count and of what is required, as code reads it
outcome : (blocks : ℤ) (counted n : ℕ) {r : ℤ} {b t : Bool} → SFits w32 blocks → r ≡ required_of (to_z w32 (of_z w32 blocks)) counted
    → b ≡ le_z (to_z w32 (of_z w32 r)) (pos n) → b ≡ t → le_z (required_of blocks counted) (pos n) ≡ t
outcome blocks counted n f e g h =
    ap (λ (z : ℤ). le_z z (pos n)) (sym (read w32 (e ∙ ap (λ (z : ℤ). required_of z counted) (back w32 f)) (required_fits blocks counted))) ∙ sym g ∙ h

pub returns-then-enough : goal.returns-then-enough
unfolding class_of grade_of
returns-then-enough c =
    let scene = outcome c.args.blocks c.args.counts.counted _ c.ranges.blocks c.required-r.ensures c.enough.ensures c.if-enough.true in
    simp scene

pub returns-then-enough-2 : goal.returns-then-enough-2
unfolding class_of grade_of
returns-then-enough-2 c =
    let scene = outcome c.args.blocks c.args.counts.counted _ c.ranges.blocks c.required-r.ensures c.enough.ensures c.if-enough.false in
    let m2 = outcome c.args.blocks c.args.counts.counted _ c.ranges.blocks c.required-r.ensures c.enough-2.ensures c.if-enough-2.true in
    simp (scene, m2)

pub returns-then-enough-3 : goal.returns-then-enough-3
unfolding class_of grade_of
returns-then-enough-3 c =
    let scene = outcome c.args.blocks c.args.counts.counted _ c.ranges.blocks c.required-r.ensures c.enough.ensures c.if-enough.false in
    let m2 = outcome c.args.blocks c.args.counts.counted _ c.ranges.blocks c.required-r.ensures c.enough-2.ensures c.if-enough-2.false in
    let m1 = outcome c.args.blocks c.args.counts.counted _ c.ranges.blocks c.required-r.ensures c.enough-3.ensures c.if-enough-3.true in
    simp (scene, m2, m1)

pub returns : goal.returns
unfolding class_of grade_of
returns c =
    let scene = outcome c.args.blocks c.args.counts.counted _ c.ranges.blocks c.required-r.ensures c.enough.ensures c.if-enough.false in
    let m2 = outcome c.args.blocks c.args.counts.counted _ c.ranges.blocks c.required-r.ensures c.enough-2.ensures c.if-enough-2.false in
    let m1 = outcome c.args.blocks c.args.counts.counted _ c.ranges.blocks c.required-r.ensures c.enough-3.ensures c.if-enough-3.false in
    simp (scene, m2, m1)
