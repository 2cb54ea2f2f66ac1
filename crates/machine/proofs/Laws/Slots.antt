-- What each call does to the slots: open, take and pool clear them, put records its step, undo and redo read those of a run and write none.
use Rattle.std.specs.Prelude.{◌≡◌, ℕ, ◌+◌, ◌-◌, ◌*◌, ◌≤◌, ◌<◌, ℤ, drop}
use Rattle.std.proofs.Math.Path.{refl, sym, ap}
use Rattle.std.proofs.Common.{◌∙◌, ⊎_elim}
use mathlib.Core.List.{List, [], ◌∷◌, ◌++◌, map-append, map-map, reverse}
use Rattle.std.proofs.Math.Decide.{dec_lt}
use native.Mathlib.Omega.{arith}
use Rattle.std.proofs.Math.ListN.{length, length-map}
use Rattle.record.specs.declared.entry.BlockVector.{BlockVector}
use Rattle.record.specs.declared.shape.FieldShape.{FieldShape}
use Rattle.record.specs.Shape.{blocks_of}
use Rattle.history.specs.declared.Step.{Step as Slot}
use Rattle.history.specs.History.{slot_size, step_at, Fitting, appended, cleared, laid, pushed}
use Rattle.history.specs.History.Laws.{step_next, step_last, laid_moved, length_laid, laid_cleared, cleared_is, laid_appended, pushed_room, pushed_full}
use Rattle.runs.specs.Runs.{first_run}
use Rattle.runs.specs.Slots.{run_back, run_ahead}
use Rattle.runs.proofs.Laws.Slots.{run_back_laid, run_ahead_laid}
use Rattle.machine.specs.Machine.{Step, Sets, Machine, opened, begun_anew, recorded, put_step, after_put, Ends, none, some, back, forth, past_run, future_run}
use Rattle.machine.proofs.Laws.Machine.{list_of, length_last, recorded_room, recorded_full}
use Rattle.machine.specs.Proof.Sound.{StepSound}
use Rattle.machine.specs.Slots.{slot_of, slots_of, slots_laid}

-- ---- lists of slots

slots_rest : (a : List Step) → slots_of (drop 1 a) ≡ drop 1 (slots_of a)
slots_rest [] = refl
slots_rest (p ∷ a) = refl

-- ---- a sound step fits a slot

pub slot_fits : (s : FieldShape) (p : Step) → blocks_of s ≤ 4294967296 → StepSound s p → Fitting (slot_of p)
unfolding slot_of
slot_fits s p h g =
    record { block = let b = g.block in omega arith; side = side; old = g.old; new = g.new; gesture = g.gesture }
  where
    side : p.side < 4294967296
    side = ⊎_elim (λ e. omega arith) (λ e. omega arith) g.side

-- ---- the counts and the room

module _ (D : ℕ) (m : Machine) (count : length m.past + length m.future ≤ D) where
  counted : length (slots_of m.past) + length (slots_of m.future) ≤ D
  counted = let a = length-map m.past slot_of in let b = length-map m.future slot_of in omega arith

  pub length_slots_laid : (surplus : List ℕ) → length (slots_laid D m surplus) ≡ slot_size * D + length surplus
  unfolding slots_laid
  length_slots_laid surplus = length_laid D (slots_of m.past) (slots_of m.future) surplus counted

  -- ---- begun anew, the slots are cleared

  pub slots_anew : (sets : Sets) (surplus : List ℕ) → cleared D (slots_laid D m surplus) ≡ slots_laid D (begun_anew sets m) surplus
  unfolding slots_laid begun_anew
  slots_anew sets surplus = laid_cleared D (slots_of m.past) (slots_of m.future) surplus counted

  -- ---- put records its step

  pub slots_recorded : (p : Step) → 1 ≤ D → slots_of (recorded D m.past p) ≡ pushed D (slots_of m.past) (slot_of p)
  slots_recorded p h = go (dec_lt (length m.past) D)
    where
      n : length (slots_of m.past) ≡ length m.past
      n = length-map m.past slot_of

      go : Dec (length m.past < D) → slots_of (recorded D m.past p) ≡ pushed D (slots_of m.past) (slot_of p)
      go (yes l) =
          ap slots_of (recorded_room D m.past p l)
          ∙ map-append slot_of m.past (p ∷ [])
          ∙ sym (pushed_room D (slots_of m.past) (slot_of p) (rw n l))
      go (no l) =
          let e : length m.past ≡ D = omega arith in
          ap slots_of (recorded_full D m.past p e)
          ∙ map-append slot_of (drop 1 m.past) (p ∷ [])
          ∙ ap (λ (q : List Slot). q ++ (slot_of p ∷ [])) (slots_rest m.past)
          ∙ sym (pushed_full D (slots_of m.past) (slot_of p) h (n ∙ e))

  pub slots_put : (side block : ℕ) (v : BlockVector) (gesture : ℕ) (surplus : List ℕ) → 1 ≤ D
      → appended D (length m.past) (slot_of (put_step side block v gesture m.sets)) (slots_laid D m surplus)
      ≡ slots_laid D (after_put D side block v gesture m) surplus
  unfolding slots_laid after_put
  slots_put side block v gesture surplus h =
      let p : Step = put_step side block v gesture m.sets in
      ap (λ (n : ℕ). appended D n (slot_of p) (laid D (slots_of m.past) (slots_of m.future) surplus)) (sym (length-map m.past slot_of))
      ∙ laid_appended D (slots_of m.past) (slots_of m.future) surplus (slot_of p) h counted
      ∙ ap (λ (q : List Slot). laid D q [] surplus) (sym (slots_recorded p h))

-- ---- open clears the slots

pub slots_opened : (D : ℕ) (s : FieldShape) (t : ℤ) (h : List ℕ) → cleared D h ≡ slots_laid D (opened s t) (drop (slot_size * D) h)
unfolding slots_laid opened
slots_opened D s t h = cleared_is D h

-- ---- a step back or forth writes no slot and reads its own

module _ (D : ℕ) (m : Machine) (surplus : List ℕ) where
  pub slots_back : (e : Ends) → list_of e ≡ m.past → slots_laid D (back e m) surplus ≡ slots_laid D m surplus
  unfolding back list_of slots_laid
  slots_back none e = refl
  slots_back (some ps p) e =
      sym (laid_moved D (slots_of ps) (slot_of p) (slots_of m.future) surplus)
      ∙ ap (λ (q : List Slot). laid D q (slots_of m.future) surplus) (sym (map-append slot_of ps (p ∷ [])) ∙ ap slots_of e)

  pub slots_forth : (q : List Step) → q ≡ m.future → slots_laid D (forth q m) surplus ≡ slots_laid D m surplus
  unfolding forth slots_laid
  slots_forth [] e = refl
  slots_forth (p ∷ ps) e =
      ap (λ (q : List Slot). laid D q (slots_of ps) surplus) (map-append slot_of m.past (p ∷ []))
      ∙ laid_moved D (slots_of m.past) (slot_of p) (slots_of ps) surplus
      ∙ ap (λ (q : List Step). laid D (slots_of m.past) (slots_of q) surplus) e

  pub slot_back : (ps : List Step) (p : Step) → ps ++ (p ∷ []) ≡ m.past → Fitting (slot_of p) → step_at (slots_laid D m surplus) (length m.past - 1) ≡ slot_of p
  unfolding slots_laid
  slot_back ps p e f =
      let n = length_last m.past ps p e in
      let k : length m.past - 1 ≡ length (slots_of ps) = let a = length-map ps slot_of in omega arith in
      ap (step_at (laid D (slots_of m.past) (slots_of m.future) surplus)) k
      ∙ ap (λ (q : List Slot). step_at (laid D q (slots_of m.future) surplus) (length (slots_of ps))) (ap slots_of (sym e) ∙ map-append slot_of ps (p ∷ []))
      ∙ step_last D (slots_of ps) (slot_of p) (slots_of m.future) surplus f

  pub slot_forth : (p : Step) (ps : List Step) → p ∷ ps ≡ m.future → Fitting (slot_of p) → step_at (slots_laid D m surplus) (length m.past) ≡ slot_of p
  unfolding slots_laid
  slot_forth p ps e f =
      ap (λ (q : List Step). step_at (laid D (slots_of m.past) (slots_of q) surplus) (length m.past)) (sym e)
      ∙ ap (step_at (laid D (slots_of m.past) (slot_of p ∷ slots_of ps) surplus)) (sym (length-map m.past slot_of))
      ∙ step_next D (slots_of m.past) (slot_of p) (slots_of ps) surplus f

  -- ---- a run: the one that is read from the slots is the machine's

  pub run_back_slots : run_back (slots_laid D m surplus) (length m.past) ≡ past_run m
  unfolding slots_laid slot_of past_run
  run_back_slots =
      ap (run_back (laid D (slots_of m.past) (slots_of m.future) surplus)) (sym (length-map m.past slot_of))
      ∙ run_back_laid D surplus (slots_of m.past) (slots_of m.future)
      ∙ ap (λ (l : List ℕ). first_run (reverse l)) (map-map _ slot_of m.past)

  pub run_ahead_slots : run_ahead (slots_laid D m surplus) (length m.past) (length m.future) ≡ future_run m
  unfolding slots_laid slot_of future_run
  run_ahead_slots =
      (λ i. run_ahead (laid D (slots_of m.past) (slots_of m.future) surplus) (sym (length-map m.past slot_of) i) (sym (length-map m.future slot_of) i))
      ∙ run_ahead_laid D surplus (slots_of m.past) (slots_of m.future)
      ∙ ap first_run (map-map _ slot_of m.future)
