-- `masks::rows::covered` meets its contract: the shift floors, and the least of both is the definition's.
use Rattle.std.specs.Prelude.{◌≡◌, ◌≤◌, ℤ, pos}
use Rattle.std.proofs.Common.{sym, subst, ap, ◌∙◌, arith, SFits, to_z, of_z}
use Rattle.std.specs.Int.{w32, int_min}
use Rattle.std.specs.Int.Signed.{shr_z}
use mir.ValLaws.{to_z_pos}
use Rattle.arith.specs.Floor.Laws.{floor_fits}
use Rattle.arith.specs.Integers.{up, dn}
use Rattle.arith.specs.Signed.{answered, back, read}
use Rattle.masks.specs.Cover.{eighth_of}
use Rattle.masks.specs.Cover.Laws.{covered_most, covered_least, covered_min}
use Rattle.masks.proofs.rows.covered.Goals as goal

shifted : (s : ℤ) → SFits w32 s → to_z w32 (of_z w32 (shr_z (to_z w32 (of_z w32 s)) 8)) ≡ eighth_of s
unfolding eighth_of
shifted s f = read w32 (ap (λ (z : ℤ). shr_z z 8) (back w32 f)) (floor_fits w32 s 8 f)

pub returns : goal.returns
returns c =
    let a = c.args in
    let most : to_z w32 a.area ≡ pos a.area = to_z_pos w32 a.area (omega arith) in
    let e = answered w32 c.min.type_inv (c.min.ensures.value ∙ (λ i. int_min (shifted a.s c.ranges.s i) (most i)) ∙ covered_min a.area a.s) in (
      e,
      subst (λ (z : ℤ). up z ≤ a.area) (sym e) (covered_most a.area a.s),
      subst (λ (z : ℤ). dn z ≤ 268435456) (sym e) (covered_least a.area a.s c.ranges.s),
    )
