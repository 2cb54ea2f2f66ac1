-- `maps::planes::clamp_pack` meets its contract: every sum and difference is far within an i32.
use Rattle.std.proofs.Common.{◌≡◌, Bool, true, false, ℤ, pos, negsuc, ◌+ℤ◌, ◌-ℤ◌, neg_ℤ, refl, sym, ap, ◌∙◌, ap₂, arith, w32, SFits, to_z, of_z}
use Rattle.std.proofs.lemmas.Bool.Decides.{nat_tests}
use Rattle.std.specs.Int.{int_max}
use lib.Signed.{lt_z, le_z}
use Rattle.arith.specs.Integers.{up, eq_z, sum_z, dif_z, up_neg, dn_neg, le_z_true, le_z_false, lt_z_is_true, lt_z_is_false}
use Rattle.arith.specs.Signed.{back, read, answered, bounds_fit}
use Rattle.maps.specs.Planes.{clamp_of}
use Rattle.maps.specs.Planes.Component.{ComponentReady}
use Rattle.maps.proofs.planes.clamp_pack.Goals as goal

-- a number as code reads it back
abbrev code : ℤ → ℤ
code z = to_z w32 (of_z w32 z)

-- the larger of a number and 0
max_is : (z : ℤ) → int_max z (pos 0) ≡ pos (up z)
max_is (pos n) = grind (arith, nat_tests)
max_is (negsuc n) = refl

module _ {v p b l : ℤ} (h : ComponentReady v p b l) (fv : SFits w32 v) (fp : SFits w32 p) (fb : SFits w32 b) (fl : SFits w32 l) where
  minus_is : code (pos 0 -ℤ code p) ≡ neg_ℤ p
  minus_is =
      read w32 (ap (λ (z : ℤ). pos 0 -ℤ z) (back w32 fp) ∙ eq_z (omega (arith, dif_z (pos 0) p, up_neg p, dn_neg p)))
      (bounds_fit w32 (neg_ℤ p) (λ e. omega (arith, dn_neg p, h)) (λ e. omega (arith, up_neg p, h)))

  sum_is : code (code v +ℤ code p) ≡ v +ℤ p
  sum_is = read w32 (ap₂ ◌+ℤ◌ (back w32 fv) (back w32 fp)) (bounds_fit w32 (v +ℤ p) (λ e. omega (arith, sum_z v p, h)) (λ e. omega (arith, sum_z v p, h)))

  room_is : code (code (code l -ℤ code p) -ℤ code b) ≡ l -ℤ p -ℤ b
  room_is =
      read w32
      (ap₂ ◌-ℤ◌
      (read w32 (ap₂ ◌-ℤ◌ (back w32 fl) (back w32 fp)) (bounds_fit w32 (l -ℤ p) (λ e. omega (arith, dif_z l p, h)) (λ e. omega (arith, dif_z l p, h))))
      (back w32 fb))
      (bounds_fit w32 (l -ℤ p -ℤ b) (λ e. omega (arith, dif_z (l -ℤ p) b, dif_z l p, h)) (λ e. omega (arith, dif_z (l -ℤ p) b, dif_z l p, h)))

  -- the tests, of the numbers themselves
  before_start : {t : Bool} → lt_z (code (code v +ℤ code p)) (pos 0) ≡ t → lt_z (v +ℤ p) (pos 0) ≡ t
  before_start e = ap (λ (z : ℤ). lt_z z (pos 0)) (sym sum_is) ∙ e

  room_test : {t : Bool} → le_z (code v) (code (code (code l -ℤ code p) -ℤ code b)) ≡ t → le_z v (l -ℤ p -ℤ b) ≡ t
  room_test e = sym (ap₂ le_z (back w32 fv) room_is) ∙ e

  -- a component that the room is enough for ends within the picture, and no other does
  within : le_z v (l -ℤ p -ℤ b) ≡ true → lt_z l (v +ℤ p +ℤ b) ≡ false
  within e = lt_z_is_false l (v +ℤ p +ℤ b) (omega (arith, le_z_true v (l -ℤ p -ℤ b) e, sum_z (v +ℤ p) b, sum_z v p, dif_z (l -ℤ p) b, dif_z l p))

  past_end : le_z v (l -ℤ p -ℤ b) ≡ false → lt_z l (v +ℤ p +ℤ b) ≡ true
  past_end e = lt_z_is_true l (v +ℤ p +ℤ b) (omega (arith, le_z_false v (l -ℤ p -ℤ b) e, sum_z (v +ℤ p) b, sum_z v p, dif_z (l -ℤ p) b, dif_z l p))

pub returns-then-value-pos-lt0 : goal.returns-then-value-pos-lt0
unfolding clamp_of
returns-then-value-pos-lt0 c =
    let r = c.ranges in
    simp (before_start c.requires r.value r.pos r.block r.limit c.if-value-pos-lt0.true) (minus_is c.requires r.value r.pos r.block r.limit)

pub returns-then-value-room : goal.returns-then-value-room
unfolding clamp_of
returns-then-value-room c =
    let r = c.ranges in
    simp (
      before_start c.requires r.value r.pos r.block r.limit c.if-value-pos-lt0.false,
      within c.requires r.value r.pos r.block r.limit (room_test c.requires r.value r.pos r.block r.limit c.if-value-room.true),
    ) (back w32 r.value)

pub returns : goal.returns
unfolding clamp_of
returns c =
    let r = c.ranges in
    simp (
      before_start c.requires r.value r.pos r.block r.limit c.if-value-pos-lt0.false,
      past_end c.requires r.value r.pos r.block r.limit (room_test c.requires r.value r.pos r.block r.limit c.if-value-room.false),
    )
    (answered w32 c.max.type_inv (c.max.ensures.value ∙ ap (λ (z : ℤ). int_max z (pos 0)) (room_is c.requires r.value r.pos r.block r.limit) ∙ max_is (c.args.limit -ℤ c.args.pos -ℤ c.args.block)))
