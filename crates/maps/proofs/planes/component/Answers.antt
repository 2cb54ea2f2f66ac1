-- `maps::planes::component` meets its contract: with selector 0 the component is clamped first.
use Rattle.std.proofs.Common.{◌≡◌, ℤ, pos, ◌+ℤ◌, ap, ◌∙◌, arith, lit<, w16, w32, SFits, to_z, of_z}
use Rattle.arith.specs.Integers.{up}
use Rattle.arith.specs.Signed.{back, read, widened, bounds_fit, bits_same, bits_differ}
use Rattle.maps.specs.Planes.{clamp_of, component_of}
use Rattle.maps.specs.Planes.Component.{ComponentReady, clamped_up, clamped_dn}
use Rattle.maps.proofs.planes.component.Goals as goal

-- what the call has left in a signed local
clamped_is : {v p b l r : ℤ} → ComponentReady v p b l → SFits w16 v → SFits w32 p → SFits w32 b → SFits w32 l
    → r ≡ clamp_of (to_z w32 (of_z w32 (to_z w16 (of_z w16 v)))) (to_z w32 (of_z w32 p)) (to_z w32 (of_z w32 b)) (to_z w32 (of_z w32 l))
    → to_z w32 (of_z w32 r) ≡ clamp_of v p b l
clamped_is {v} {p} {b} {l} h fv fp fb fl e =
    read w32 (e ∙ (λ i. clamp_of (widened w16 w32 tt fv i) (back w32 fp i) (back w32 fb i) (back w32 fl i)))
    (bounds_fit w32 (clamp_of v p b l) (λ q. omega (arith, clamped_dn v p b l h)) (λ q. omega (arith, clamped_up v p b l h)))

pub raised-requires : goal.raised-requires
raised-requires c =
    let r = c.ranges in
    simp (clamped_is c.requires r.value r.pos r.block r.limit c.clamp_pack.ensures) (clamped_up _ _ _ _ c.requires, clamped_dn _ _ _ _ c.requires)

pub returns-then-selector-eq0 : goal.returns-then-selector-eq0
unfolding component_of
returns-then-selector-eq0 c =
    let r = c.ranges in
    simp (bits_same w32 {b = pos 0} r.selector (record { sfits = lit< tt }) c.if-selector-eq0.true)
    (c.raised.ensures ∙ ap (λ (z : ℤ). up (z +ℤ pos 1024)) (clamped_is c.requires r.value r.pos r.block r.limit c.clamp_pack.ensures))

pub returns : goal.returns
unfolding component_of
returns c =
    simp (bits_differ w32 c.args.selector (pos 0) c.if-selector-eq0.false)
    (c.raised-2.ensures ∙ ap (λ (z : ℤ). up (z +ℤ pos 1024)) (widened w16 w32 tt c.ranges.value))
