-- The numbers of a built session's calls are the machine's: its sizes are those of the opening, and what it carries is accepted.
use Rattle.std.specs.Prelude.{◌≡◌, refl, ◌⊎◌, Bool, false, ◌&&◌, ◌||◌, ltb, ℤ}
use Rattle.std.proofs.Common.{sym, ◌∙◌, inl, inr, add-one, arith, length-append, length-drop}
use Rattle.std.proofs.Math.Path.{ap}
use Rattle.std.proofs.Math.Bool.{true}
use mathlib.Core.List.{List, [], ◌∷◌, ◌++◌, map-append}
use Prim.Native.Nat.{ℕ, suc, ◌+◌, ◌-◌, ◌*◌, ◌≤◌}
use borrow.Author.Tests.{le-leb, lt-ltb}
use Rattle.std.proofs.Math.Dec.{eqb}
use Rattle.std.proofs.Math.ListN.{length, take, drop, take-append-drop}
use Rattle.std.proofs.lemmas.List.{length-map}
use Rattle.std.proofs.Math.Seq.{length-take-le}
use Rattle.arith.specs.Booleans.{and_both}
use Rattle.arith.specs.Splice.Laws.{length_over}
use Rattle.record.specs.declared.entry.BlockVector.{BlockVector}
use Rattle.record.specs.Entries.{side_accepted}
use Rattle.record.specs.Shape.{shape_accepted, blocks_of}
use Rattle.record.specs.Shape.Laws.{accepted_facts, shape_bounds}
use Rattle.record.specs.Update.{payload_number}
use Rattle.pooling.specs.Pool.{both_number}
use Rattle.scatter.specs.Grid.{grid_of}
use Rattle.scatter.specs.Grid.Laws.{length_grid}
use Rattle.maps.specs.Luma.{averages_made}
use Rattle.maps.specs.Luma.Laws.{length_averages_made}
use Rattle.maps.specs.Map.Laws.{length_map_made}
use Rattle.maps.specs.Planes.{planes}
use Rattle.maps.specs.Planes.Laws.{length_xs_made, length_ys_made}
use Rattle.history.specs.declared.Step.{Step as Slot}
use Rattle.history.specs.History.{slot_size, depth_of, step_at, Fitting, laid}
use Rattle.history.specs.History.Laws.{depth_within, depth_some, step_next, laid_joined, laid_moved}
use Rattle.scatter.specs.Geometry.{time_accepted}
use Rattle.scatter.specs.Geometry.Laws.{time_range, time_number_lem, accepted_time}
use Rattle.state.specs.declared.session.Sizes.{Sizes}
use Rattle.state.specs.Buffers.{sizes_of}
use Rattle.state.specs.Calls.{rebuilt, with_history}
use Rattle.record.specs.Numbers.{first, unless}
use Rattle.record.specs.Numbers.Laws.{unless_good, first_zero, first_found, passed, failed}
use Rattle.state.specs.Numbers.{sized, block_good, sad_good, counts_good, place_good, slot_good, shown_number, carried_number, slots_good, retime_number, take_number, pool_number, put_number, steps_number, run_number}
use Rattle.state.specs.Numbers.Laws.{shown_accepts, slots_no, slots_more, slots_fewer}
use Rattle.state.specs.Ready.{SessionRoom}
use Rattle.state.proofs.Laws.Ready.{sized_room, no_step_some}
use Rattle.state.specs.Steps.{steps_of, no_step_number, run_length, run_start}
use Rattle.machine.specs.Machine as M
use Rattle.machine.specs.Machine.{Machine}
use Rattle.machine.specs.Slots.{slot_of, slots_of, slots_laid}
use Rattle.machine.proofs.Laws.Slots.{length_slots_laid, slot_fits}
use Rattle.machine.specs.Proof.Sound.{Sound, StepSound, All, cons}
use Rattle.machine.proofs.Laws.Sound.{all_append, all_drop}
use Rattle.machine.specs.Layout.{Opening, depth_for, surplus, session_for}
use Rattle.machine.specs.Proof.Built.{built, backward_over, forward_over, shown_over}

-- what an accepted open says of what it was given
pub record OpenGood (o : Opening) : Type 0 where
  pub shape : shape_accepted o.shape ≡ true
  pub sizes : sized o.shape (sizes_of o.buffers) ≡ true
  pub side : side_accepted o.side ≡ true

-- the machine's rule of times is the scatter's
pub time_same : (T : ℤ) → time_accepted T ≡ M.time_good T
unfolding M.time_good
time_same T = time_range T

-- the tests of a put, where what the session carries is good
put_tests : (p t q c : Bool) → t ≡ true → c ≡ true → first (unless p 8) (first (unless (t && q) 7) (unless c 11)) ≡ first (unless p 8) (unless q 7)
unfolding first unless
put_tests p t q c f k = (λ i. first (unless p 8) (first (unless (f i && q) 7) (unless (k i) 11))) ∙ go p q
  where
    go : (p q : Bool) → first (unless p 8) (first (unless (true && q) 7) (unless true 11)) ≡ first (unless p 8) (unless q 7)
    go true true = refl
    go true false = refl
    go false q = refl

module _ (o : Opening) (ready : OpenGood o) where
  pub lent_room : SessionRoom o.shape (sizes_of o.buffers)
  lent_room = sized_room _ _ ready.sizes

  pub length_backward : (m : Machine) → Sound (depth_for o) o.shape m → length (backward_over o m.sets) ≡ length o.buffers.backward
  length_backward m h = length_over m.sets.backward o.buffers.backward (rw h.sets.backward lent_room.backward)

  pub length_forward : (m : Machine) → Sound (depth_for o) o.shape m → length (forward_over o m.sets) ≡ length o.buffers.forward
  length_forward m h = length_over m.sets.forward o.buffers.forward (rw h.sets.forward lent_room.forward)

  pub history_length : (m : Machine) → Sound (depth_for o) o.shape m → length (slots_laid (depth_for o) m (surplus o)) ≡ length o.buffers.history
  unfolding depth_for
  history_length m h =
      length_slots_laid (depth_for o) m h.count (surplus o)
      ∙ ap (λ (n : ℕ). slot_size * depth_for o + n) (length-drop (slot_size * depth_for o) o.buffers.history)
      ∙ omega (arith, depth_within (length o.buffers.history))

  pub sizes_built : (m : Machine) → Sound (depth_for o) o.shape m → sizes_of (built o m) ≡ sizes_of o.buffers
  unfolding built rebuilt with_history session_for depth_for
  sizes_built m h =
      λ i. record {
        backward = length_backward m h i;
        forward = length_forward m h i;
        table = length o.buffers.table;
        grid = length_over (grid_of o.shape m.time (shown_over o m.sets)) o.buffers.grid (rw (length_grid o.shape m.time (shown_over o m.sets)) lent_room.grid) i;
        xs = length_xs_made o.shape (shown_over o m.sets) (planes o.buffers.xs o.buffers.ys) lent_room.xs i;
        ys = length_ys_made o.shape (shown_over o m.sets) (planes o.buffers.xs o.buffers.ys) lent_room.ys i;
        averages = length_averages_made o.shape o.buffers.table (backward_over o m.sets) (forward_over o m.sets) o.buffers.averages lent_room.averages i;
        map = length_map_made o.shape o.limits (shown_over o m.sets) (averages_made o.shape o.buffers.table (backward_over o m.sets) (forward_over o m.sets) o.buffers.averages) o.buffers.map lent_room.map i;
        history = history_length m h i;
      }

  pub depth_built : (m : Machine) → Sound (depth_for o) o.shape m → depth_of (length (slots_laid (depth_for o) m (surplus o))) ≡ depth_for o
  unfolding depth_for
  depth_built m h = ap depth_of (history_length m h)

  pub depth_least : 1 ≤ depth_for o
  unfolding depth_for
  depth_least = depth_some (length o.buffers.history) lent_room.history

  -- what the opening was given is accepted, and at every good time
  shown : shown_number o.shape o.side (sizes_of o.buffers) ≡ 0
  shown = shown_accepts _ _ _ ready.shape ready.sizes ready.side

  pub given_zero : (T : ℤ) → time_accepted T ≡ true → carried_number o.shape o.side T (sizes_of o.buffers) ≡ 0
  unfolding carried_number
  given_zero T t = first_zero _ _ shown ∙ accepted_time T t

  carried : (m : Machine) → Sound (depth_for o) o.shape m → carried_number o.shape o.side m.time (sizes_of (built o m)) ≡ 0
  carried m h = ap (carried_number o.shape o.side m.time) (sizes_built m h) ∙ given_zero m.time (time_same m.time ∙ h.time)

  pub retime_number_lem : (T : ℤ) (m : Machine) → Sound (depth_for o) o.shape m → retime_number (session_for o m) T (sizes_of (built o m)) ≡ M.retime_number T
  unfolding retime_number M.retime_number session_for
  retime_number_lem T m h = first_zero _ _ (carried m h) ∙ time_number_lem T ∙ ap (λ (t : Bool). unless t 7) (time_same T)

  pub take_number_lem : (p : List ℕ) (m : Machine) → Sound (depth_for o) o.shape m → take_number (session_for o m) p (sizes_of (built o m)) ≡ payload_number o.shape p
  unfolding take_number session_for
  take_number_lem p m h = first_zero _ _ (carried m h)

  pub pool_number_lem : (p q : List ℕ) (m : Machine) → Sound (depth_for o) o.shape m → pool_number (session_for o m) p q (sizes_of (built o m)) ≡ both_number o.shape p q
  unfolding pool_number session_for
  pool_number_lem p q m h = first_zero _ _ (carried m h)

  pub counts_good_lem : (m : Machine) → Sound (depth_for o) o.shape m → counts_good (session_for o m) (sizes_of o.buffers) ≡ true
  unfolding counts_good session_for depth_for
  counts_good_lem m h = le-leb (length m.past + length m.future) (depth_of (length o.buffers.history)) h.count

  pub put_number_lem : (side block : ℕ) (v : BlockVector) (m : Machine) → Sound (depth_for o) o.shape m
      → put_number (session_for o m) side block v.sad (sizes_of (built o m)) ≡ M.put_number o.shape side block v
  unfolding put_number M.put_number session_for place_good side_accepted block_good sad_good M.sad_good
  put_number_lem side block v m h =
      ap (λ (z : Sizes). put_number (session_for o m) side block v.sad z) (sizes_built m h)
      ∙ first_zero _ _ shown
      ∙ put_tests (place_good o.shape side block) (time_accepted m.time) (sad_good v.sad) (counts_good (session_for o m) (sizes_of o.buffers)) (time_same m.time ∙ h.time) (counts_good_lem m h)

  pub slot_good_lem : (p : M.Step) → StepSound o.shape p → slot_good o.shape (slot_of p) ≡ true
  unfolding slot_good place_good side_accepted block_good slot_of
  slot_good_lem p g = and_both _ _ (side_good p.side g.side) (lt-ltb p.block (blocks_of o.shape) g.block)
    where
      side_good : (k : ℕ) → (k ≡ 1) ⊎ (k ≡ 2) → (eqb k 1 || eqb k 2) ≡ true
      side_good k (inl e) = ap (λ (n : ℕ). eqb n 1 || eqb n 2) e
      side_good k (inr e) = ap (λ (n : ℕ). eqb n 1 || eqb n 2) e

  -- the step counts' test of a built session
  pub counts_built : (m : Machine) → Sound (depth_for o) o.shape m → counts_good (session_for o m) (sizes_of (built o m)) ≡ true
  counts_built m h = ap (λ (z : Sizes). counts_good (session_for o m) z) (sizes_built m h) ∙ counts_good_lem m h

  -- undo and redo: without a step, and with those of a run whose slots are good
  module _ (back : Bool) (m : Machine) (h : Sound (depth_for o) o.shape m) where
    pub run_empty : steps_of back (session_for o m) ≡ 0 → run_number back (session_for o m) (built o m).history (sizes_of (built o m)) ≡ no_step_number back
    unfolding run_number steps_number session_for
    run_empty e =
        let refused = first_zero _ _ (carried m h) ∙ failed (ltb 0 (steps_of back (session_for o m))) (no_step_number back) _ (ap (ltb 0) e) (no_step_some back) in
        first_found _ _ (λ z. no_step_some back (sym refused ∙ z)) ∙ refused

    pub run_some : 1 ≤ steps_of back (session_for o m)
        → (let n : ℕ = run_length back (session_for o m) (built o m).history in slots_good o.shape (built o m).history (run_start back (session_for o m) n) n ≡ true)
        → run_number back (session_for o m) (built o m).history (sizes_of (built o m)) ≡ 0
    unfolding run_number steps_number session_for
    run_some l e =
        first_zero _ _ (first_zero _ _ (carried m h) ∙ passed _ (no_step_number back) _ (lt-ltb 0 (steps_of back (session_for o m)) (omega arith)) ∙ unless_good _ 11 (counts_built m h))
        ∙ unless_good _ 11 e

  -- ---- the slots of a run are good, since every slot of a step is

  pub fits : (p : M.Step) → StepSound o.shape p → Fitting (slot_of p)
  fits p g = slot_fits o.shape p (let k = (shape_bounds o.shape (accepted_facts o.shape ready.shape)).blocks_most in omega arith) g

  -- those of future, whatever is past
  future_good : (D : ℕ) (past future : List M.Step) (surplus : List ℕ) → All (StepSound o.shape) future
      → slots_good o.shape (laid D (slots_of past) (slots_of future) surplus) (length past) (length future) ≡ true
  future_good D past [] surplus g = slots_no o.shape _ (length past)
  future_good D past (p ∷ future) surplus (cons g more) =
      let L : List ℕ = laid D (slots_of past) (slot_of p ∷ slots_of future) surplus in
      let n : suc (length past) ≡ length (past ++ (p ∷ [])) = sym (add-one (length past)) ∙ sym (length-append past (p ∷ [])) in
      let moved : L ≡ laid D (slots_of (past ++ (p ∷ []))) (slots_of future) surplus =
      sym (laid_moved D (slots_of past) (slot_of p) (slots_of future) surplus)
      ∙ ap (λ (q : List Slot). laid D q (slots_of future) surplus) (sym (map-append slot_of past (p ∷ []))) in
      let here : step_at L (length past) ≡ slot_of p =
      ap (step_at L) (sym (length-map past slot_of)) ∙ step_next D (slots_of past) (slot_of p) (slots_of future) surplus (fits p g) in
      slots_more o.shape L (length past) (length future) (ap (slot_good o.shape) here ∙ slot_good_lem p g)
      ((λ i. slots_good o.shape (moved i) (n i) (length future)) ∙ future_good D (past ++ (p ∷ [])) future surplus more)

  module _ (m : Machine) (h : Sound (depth_for o) o.shape m) (n : ℕ) where
    pub redo_slots_good : n ≤ length m.future → slots_good o.shape (slots_laid (depth_for o) m (surplus o)) (length m.past) n ≡ true
    unfolding slots_laid
    redo_slots_good l = slots_fewer o.shape _ _ n (length m.future) l (future_good (depth_for o) m.past m.future (surplus o) h.future)

    pub undo_slots_good : n ≤ length m.past → slots_good o.shape (slots_laid (depth_for o) m (surplus o)) (length m.past - n) n ≡ true
    unfolding slots_laid
    undo_slots_good l =
        let k : ℕ = length m.past - n in
        let a : List M.Step = take k m.past in
        let r : List M.Step = drop k m.past in
        let whole : a ++ r ≡ m.past = take-append-drop k m.past in
        let count : length a ≡ k = length-take-le k m.past (omega arith) in
        let same : laid (depth_for o) (slots_of m.past) (slots_of m.future) (surplus o) ≡ laid (depth_for o) (slots_of a) (slots_of (r ++ m.future)) (surplus o) =
        ap (λ (q : List Slot). laid (depth_for o) q (slots_of m.future) (surplus o)) (ap slots_of (sym whole) ∙ map-append slot_of a r)
        ∙ laid_joined (depth_for o) (slots_of a) (slots_of r) (slots_of m.future) (surplus o)
        ∙ ap (λ (q : List Slot). laid (depth_for o) (slots_of a) q (surplus o)) (sym (map-append slot_of r m.future)) in
        let sound : All (StepSound o.shape) (r ++ m.future) = all_append r m.future (all_drop k m.past h.past) h.future in
        (λ i. slots_good o.shape (same i) (sym count i) n)
        ∙ slots_fewer o.shape _ _ n (length (r ++ m.future)) (simp (length-append, length-drop) (omega arith)) (future_good (depth_for o) a (r ++ m.future) (surplus o) sound)
