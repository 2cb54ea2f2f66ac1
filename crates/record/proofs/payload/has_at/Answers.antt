-- `record::payload::has_at` meets its contract: what was read is there and has the bits.
use native.Mathlib.Omega.{arith}
use mathlib.Core.Path.{◌≡◌, refl, sym, ap, ◌∙◌}
use mathlib.Core.Bool.{Bool, true, false}
use borrow.Author.Tests.{eqb-true, eqb-false}
use lib.Dec.{eqb}
use lib.IntN.{ℤ}
use mir.Syntax.{w32}
use mir.Val.{SFits, of_z}
use Rattle.arith.specs.Integers.{eqb_z}
use Rattle.arith.specs.Signed.{bits_same, bits_differ}
use Rattle.std.proofs.Common.{Option}
use Rattle.record.specs.Update.{is_value, has_at}
use Rattle.record.proofs.payload.has_at.Goals as goal

-- two i32 are equal where their bits are
bits_eqb : (a b : ℤ) → SFits w32 a → SFits w32 b → eqb (of_z w32 a) (of_z w32 b) ≡ eqb_z a b
bits_eqb a b f g = go (eqb (of_z w32 a) (of_z w32 b)) (eqb-true _ _) (eqb-false _ _)
  where
    go : (t : Bool) → (t ≡ true → of_z w32 a ≡ of_z w32 b) → (t ≡ false → of_z w32 a ≡ of_z w32 b → ⊥) → t ≡ eqb_z a b
    go true h k = sym (bits_same w32 f g (h refl))
    go false h k = sym (bits_differ w32 a b (k refl))

pub returns-in_default : goal.returns-in_default
unfolding has_at is_value
returns-in_default c = ap (λ (r : Option ℤ). is_value r c.args.value) (sym c.in_default.is ∙ c.read_i32_slice.ensures)

pub returns : goal.returns
unfolding has_at is_value
returns c =
    bits_eqb c.in-Some.found c.args.value (record { sfits = omega arith }) c.ranges.value
    ∙ ap (λ (r : Option ℤ). is_value r c.args.value) (sym c.in-Some.is ∙ c.read_i32_slice.ensures)
