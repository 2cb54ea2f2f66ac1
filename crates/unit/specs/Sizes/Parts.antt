-- The checks that calls are made of, of an accepted shape: those of lengths, and what follows them, which is never 3.
use Rattle.std.specs.Prelude.{◌≡◌, refl, Bool, true, List, [], ◌∷◌, ℕ, ℤ, Float}
use Rattle.std.proofs.Common.{sym, subst}
use Rattle.arith.specs.Booleans.{cond_true}
use Rattle.record.specs.declared.shape.FieldShape.{FieldShape}
use Rattle.record.specs.Checks.{sets_number, side_number}
use Rattle.record.specs.Numbers.{first, unless}
use Rattle.record.specs.Numbers.Laws.{first_zero}
use Rattle.record.specs.Shape.{shape_accepted, shape_number}
use Rattle.record.specs.Shape.Laws.{accepted_number}
use Rattle.record.specs.Update.{payload_number}
use Rattle.scatter.specs.Geometry.{time_number}
use Rattle.scatter.specs.Geometry.Laws.{time_number_lem}
use Rattle.masks.specs.Calls.{buffers_number, settings_number}
use Rattle.state.specs.Numbers.{sized, shown_number, carried_number}
use Rattle.unit.specs.declared.data.Least.{Least}
use Rattle.unit.specs.Sizes.{least_for, least_of}
use Rattle.unit.specs.Sizes.Lengths.{Buffer, backward, forward, mask, Lengths, lengths_in, least_lengths, nine, sizes_in, Checks}
use Rattle.unit.specs.Sizes.Lengths.Laws.{fits, fits_all, fits_short, Other, other_unless, other_first, Three, three, three_first, more, three_more}

-- ---- what follows the lengths

pub other_side : (side : ℕ) → Other (side_number side)
unfolding side_number
other_side side = other_unless _ 8 refl

pub other_time : (T : ℤ) → Other (time_number T)
other_time T = rw (time_number_lem T) (other_unless _ 7 refl)

pub other_settings : (side : ℕ) (cover : ℤ) (scale : Float) → Other (settings_number side cover scale)
unfolding settings_number
other_settings side cover scale = other_first (other_side side) (other_unless _ 7 refl)

pub other_payload : (s : FieldShape) (payload : List ℕ) → Other (payload_number s payload)
unfolding payload_number
other_payload s payload =
    other_first (other_unless _ 4 refl) (other_first (other_unless _ 5 refl) (other_unless _ 6 refl))

-- ---- lengths

-- the lengths that a shape asks for, and the test of those lent for them
abbrev pub asked : FieldShape → Lengths
asked s = lengths_in (least_for s)

abbrev pub long : FieldShape → List Buffer → Lengths → Bool
long s lent z = fits (asked s) z true lent

module _ (s : FieldShape) (a : shape_accepted s ≡ true) where
  pub least_is : least_of s ≡ least_for s
  unfolding least_of
  least_is = cond_true (shape_accepted s) _ _ a

  -- a call whose number is 3 exactly where that test fails
  pub checks : {lent : List Buffer} {number : Lengths → ℕ} → ((z : Lengths) → Three (long s lent z) (number z)) → Checks s lent number
  checks {lent} {number} h =
      record {
        passes = λ z l. (same z).good (fits_all (least_lengths s) z true lent refl l);
        fails = λ z k i l. (same z).bad (fits_short (least_lengths s) z true lent k i l);
      }
    where
      same : (z : Lengths) → Three (fits (least_lengths s) z true lent) (number z)
      same z = subst (λ (l : Least). Three (fits (lengths_in l) z true lent) (number z)) (sym least_is) (h z)

  -- both sets; with the mask behind them; with any others behind them
  sets : (z : Lengths) → sets_number s (z backward) (z forward) ≡ unless (long s (backward ∷ forward ∷ []) z) 3
  unfolding sets_number
  sets z = first_zero (shape_number s) _ (accepted_number s a)

  pub masked : (z : Lengths) → buffers_number s (z backward) (z forward) (z mask) ≡ unless (long s (backward ∷ forward ∷ mask ∷ []) z) 3
  unfolding buffers_number
  masked z = rw (sets z) (more (asked s) z (mask ∷ []) _)

  pub sets_first : (z : Lengths) (ks : List Buffer) {n : ℕ} → Three (long s ks z) n
      → Three (long s (backward ∷ forward ∷ ks) z) (first (sets_number s (z backward) (z forward)) n)
  sets_first z ks h = rw (sets z) (three_more (asked s) z ks _ h)

  -- the nine of a session, before the shown side; with the time behind it
  pub shown : (side : ℕ) (z : Lengths) → Three (long s nine z) (shown_number s side (sizes_in z))
  unfolding shown_number sized
  shown side z = rw (first_zero (shape_number s) _ (accepted_number s a)) (three_first (three _) (other_side side))

  pub carried : (side : ℕ) (T : ℤ) (z : Lengths) → Three (long s nine z) (carried_number s side T (sizes_in z))
  unfolding carried_number
  carried side T z = three_first (shown side z) (other_time T)
