-- Laws of a component: what its code requires, and that a clamped one is held too.
use Rattle.std.specs.Prelude.{◌≡◌, ◌≤◌, true, ℤ, pos, negsuc, ◌+ℤ◌, ◌-ℤ◌, int_lt}
use Rattle.std.proofs.Common.{ap, ⊎_elim, arith}
use Rattle.arith.specs.Booleans.{cond_elim}
use Rattle.arith.specs.Integers.{up, dn, sum_z, dif_z, up_neg, dn_neg, range_true, lt_z_true, one_zero}
use Rattle.record.specs.Shape.Laws.{Axis}
use Rattle.maps.specs.Planes.{held, clamp_of}

-- ---- what a component's code requires: a held component, and a position, a block side and a picture side that are naturals

pub record ComponentReady (v p block picture : ℤ) : Type 0 where
  pub v_up : up v ≤ 1023
  pub v_dn : dn v ≤ 1023
  pub p_up : up p ≤ 262400
  pub p_dn : dn p ≡ 0
  pub block_up : up block ≤ 256
  pub block_dn : dn block ≡ 0
  pub picture_up : up picture ≤ 65535
  pub picture_dn : dn picture ≡ 0

held_range : (v : ℤ) → held v ≡ true → (up v ≤ 1023) × (dn v ≤ 1023)
unfolding held
held_range (pos n) e = let r = range_true (negsuc 1022) (pos 1023) (pos n) e in (omega arith, omega arith)
held_range (negsuc n) e = let r = range_true (negsuc 1022) (pos 1023) (negsuc n) e in (omega arith, omega arith)

-- of a block on an axis of an accepted shape
pub component_ready : {block overlap grid picture : ℤ} (v p : ℤ) → Axis block overlap grid picture → held v ≡ true → dn p ≡ 0 → up p ≤ 262400 → ComponentReady v p block picture
component_ready v p a h d u =
    record {
      v_up = (held_range v h).0;
      v_dn = (held_range v h).1;
      p_up = u;
      p_dn = d;
      block_up = a.block_range.most;
      block_dn = ap dn a.block_range.is;
      picture_up = a.picture_range.most;
      picture_dn = ap dn a.picture_range.is;
    }

-- a clamped component is held too
abbrev Small : ℤ → Type 0
Small z = (up z ≤ 1023) × (dn z ≤ 1023)

clamped_held : (v p block picture : ℤ) → ComponentReady v p block picture → Small (clamp_of v p block picture)
unfolding clamp_of
clamped_held v p block picture h =
    cond_elim Small (int_lt (v +ℤ p) (pos 0)) _ _
    (λ e. (omega (arith, up_neg p, h.p_dn), omega (arith, dn_neg p, lt_z_true (v +ℤ p) (pos 0) e, sum_z v p, h.v_dn)))
    (λ e. cond_elim Small (int_lt picture (v +ℤ p +ℤ block)) _ _ room (λ g. (h.v_up, h.v_dn)))
  where
    room : int_lt picture (v +ℤ p +ℤ block) ≡ true → Small (pos (up (picture -ℤ p -ℤ block)))
    room g = (
      ⊎_elim (λ o. omega arith)
          (λ o. omega (arith, lt_z_true picture (v +ℤ p +ℤ block) g, sum_z (v +ℤ p) block, sum_z v p, dif_z (picture -ℤ p) block, dif_z picture p, h.v_up))
          (one_zero (picture -ℤ p -ℤ block)),
      omega arith,
    )

pub clamped_up : (v p block picture : ℤ) → ComponentReady v p block picture → up (clamp_of v p block picture) ≤ 1023
clamped_up v p block picture h = (clamped_held v p block picture h).0

pub clamped_dn : (v p block picture : ℤ) → ComponentReady v p block picture → dn (clamp_of v p block picture) ≤ 1023
clamped_dn v p block picture h = (clamped_held v p block picture h).1
