-- Each call on a built session gives the machine's answer, and what is built from the machine's next state.
use Rattle.std.specs.Prelude.{◌≡◌, ◌⊎◌, Bool, eqb, ℤ}
use Rattle.std.proofs.Math.Path.{refl, ap}
use Rattle.std.proofs.Common.{sym, ap₂, ◌∙◌, add-one, eqb-true, length-append}
use Rattle.std.proofs.Math.Bool.{true, false, cond}
use mathlib.Core.List.{List, [], ◌∷◌, ◌++◌}
use Prim.Native.Nat.{ℕ, zero, suc, ◌-◌, ◌≤◌, ◌<◌}
use native.Mathlib.Omega.{arith}
use Rattle.std.proofs.Math.ListN.{length, length-replicate}
use Rattle.arith.specs.Booleans.{one_of}
use Rattle.arith.specs.Splice.{over}
use Rattle.arith.specs.Splice.Laws.{take_over}
use Rattle.record.specs.declared.entry.BlockVector.{BlockVector}
use Rattle.record.specs.declared.shape.FieldShape.{FieldShape}
use Rattle.record.specs.Bytes.{Bytes}
use Rattle.record.specs.Entries.{entry_at, with_entry, set_of, Holds, side_accepted}
use Rattle.record.specs.Entries.Again.{entry_over, written_over}
use Rattle.record.specs.Shape.{blocks_of, set_size}
use Rattle.record.specs.Shape.Laws.{accepted_facts, entry_room}
use Rattle.record.specs.Update.{payload_number, has_backward, has_forward, backward_at, forward_at}
use Rattle.pooling.specs.Pool.{both_number, pooled_backward, pooled_forward}
use Rattle.pooling.specs.Pool.Laws.{pooled_over}
use Rattle.maps.specs.Luma.{averages_made}
use Rattle.maps.specs.Map.{map_made}
use Rattle.maps.specs.Kept.{counts_from}
use Rattle.maps.specs.Class.{counts_of}
use Rattle.maps.proofs.Laws.Kept.{counts_from_made, counts_from_front}
use Rattle.maps.specs.Planes.{planes}
use Rattle.history.specs.declared.Step.{Step as Slot}
use Rattle.history.specs.History.{depth_of, cleared, appended, step_at}
use Rattle.runs.specs.Slots.{run_back, run_ahead}
use Rattle.runs.proofs.Laws.Slots.{run_back_most, run_ahead_most}
use Rattle.scatter.specs.Geometry.{time_accepted}
use Rattle.scatter.specs.Grid.Laws.{grid_again}
use Rattle.state.specs.declared.session.Session.{Session}
use Rattle.state.specs.Buffers.{Buffers, lent, State, state_of, Out, out, out_of}
use Rattle.state.specs.Calls.{rebuilt, edited_backward, edited_forward, edited, with_grid, with_history, when, open_of, open_done, renews, take_of, take_done, pool_of, pool_done, put_of, put_done, step_done, steps_done, run_of, run_done, undo_of, redo_of, retime_of, retime_done}
use Rattle.state.specs.Sessions.{session_of, with_steps, with_step, with_time, with_kept, no_session}
use Rattle.state.specs.Steps.{slot_used, entry_used, step_moved}
use Rattle.record.specs.Update.Over.{backward_over_lem, forward_over_lem}
use Rattle.maps.specs.Again.{averages_again, map_again, planes_again}
use Rattle.state.specs.Numbers.{open_number}
use Rattle.machine.specs.Machine as M
use Rattle.machine.specs.Machine.{Machine, Sets, stored_in, stored, entry_of}
use Rattle.machine.proofs.Laws.Machine.{list_of, list_again, length_last, lists_back, lists_forth, recorded_length}
use Rattle.machine.specs.Slots.{slots_laid, slot_of}
use Rattle.machine.proofs.Laws.Slots.{slots_anew, slots_put, slots_back, slots_forth, slot_back, slot_forth, run_back_slots, run_ahead_slots, slots_opened}
use Rattle.machine.proofs.Laws.Runs.{past_run_most, future_run_most}
use Rattle.machine.specs.Proof.Sound.{Sound, SetsSound, StepSound}
use Rattle.machine.proofs.Laws.Sound.{stored_sound, last_sound, next_sound, PutGood, put_good, taken_sets_sound, pooled_sets_sound, back_sound, forth_sound, step_sound}
use Rattle.machine.specs.Call as C
use Rattle.machine.specs.Call.{Call, PutTyped, Typed, AllCalls, AllTyped}
use Rattle.machine.specs.Play.{Played, call_of, with_number, play}
use Rattle.machine.proofs.Laws.Play.{play_turn}
use Rattle.machine.specs.Layout.{Opening, depth_for, surplus, kept_for, session_for}
use Rattle.machine.specs.Proof.Built.{built, backward_over, forward_over, shown_over}
use Rattle.machine.proofs.Laws.Numbers.{OpenGood, lent_room, length_backward, length_forward, depth_built, depth_least, retime_number_lem, take_number_lem, pool_number_lem, put_number_lem, run_empty, run_some, fits, undo_slots_good, redo_slots_good, given_zero}
use Rattle.machine.proofs.Laws.Edited.{edit_rebuilt, edit_kept}

-- ---- one built session

module _ (o : Opening) (ready : OpenGood o) where
  -- a session of this opening, of some time and step counts, whose kept counts are those of some sets
  abbrev session : ℤ → ℕ → ℕ → Sets → Session
  session T past future m = session_of o.shape o.side o.limits T past future (kept_for o m)

  -- surplus is not counted
  kept_over : (m : Sets) → length m.backward ≡ set_size o.shape → length m.forward ≡ set_size o.shape
      → counts_from o.shape o.limits o.buffers.table o.side (backward_over o m) (forward_over o m) ≡ kept_for o m
  kept_over m p q =
      sym (counts_from_front o.shape o.limits o.buffers.table o.side (backward_over o m) (forward_over o m))
      ∙ ap₂ (counts_from o.shape o.limits o.buffers.table o.side) (take_over m.backward o.buffers.backward (set_size o.shape) p) (take_over m.forward o.buffers.forward (set_size o.shape) q)

  -- all made afresh over what was built before
  rebuilt_built : (T : ℤ) (past future : ℕ) (sets : Sets) (X Y : List ℕ) (m : Machine) → Sound (depth_for o) o.shape m
      → (rebuilt (session T past future sets) X Y (built o m)).buffers ≡ with_history (cleared (depth_for o) (slots_laid (depth_for o) m (surplus o))) (rebuilt (session T past future sets) X Y o.buffers).buffers
  unfolding built rebuilt with_history session_for
  rebuilt_built T past future sets X Y m h =
      let B : List ℕ = backward_over o m.sets in
      let F : List ℕ = forward_over o m.sets in
      let Z : List ℕ = set_of o.side X Y in
      let Z₀ : List ℕ = shown_over o m.sets in
      let b : Buffers = o.buffers in
      let a : averages_made o.shape b.table X Y (averages_made o.shape b.table B F b.averages) ≡ averages_made o.shape b.table X Y b.averages = averages_again o.shape b.table B F X Y b.averages in
      let q = planes_again o.shape Z₀ Z (planes b.xs b.ys) in
      let mp : (A : List ℕ) → map_made o.shape o.limits Z A (map_made o.shape o.limits Z₀ (averages_made o.shape b.table B F b.averages) b.map) ≡ map_made o.shape o.limits Z A b.map = λ A. map_again o.shape o.limits o.limits Z₀ (averages_made o.shape b.table B F b.averages) Z A b.map in
      let d : depth_of (length (slots_laid (depth_for o) m (surplus o))) ≡ depth_for o = depth_built o ready m h in
      λ i. lent X Y b.table (grid_again o.shape T m.time Z Z₀ b.grid i) (q i).xs (q i).ys (a i) (mp (a i) i)
      (cleared (d i) (slots_laid (depth_for o) m (surplus o)))

  -- the counts that `quality` makes of what is built are the kept ones
  pub class_built : (m : Machine) → Sound (depth_for o) o.shape m
      → counts_of o.shape o.limits (set_of o.side (built o m).backward (built o m).forward) (built o m).averages ≡ kept_for o m.sets
  unfolding built rebuilt with_history session_for
  class_built m h =
      counts_from_made o.shape o.limits o.buffers.table o.side (backward_over o m.sets) (forward_over o m.sets) o.buffers.averages
      ∙ kept_over m.sets h.sets.backward h.sets.forward

  -- ---- what a call answers and leaves, from a machine

  -- an answer, and what is built from a machine
  abbrev answer : ℕ → Machine → Out
  answer n m = out n (session_for o m) (built o m)

  -- a call that is done where its number is 0
  settle : (n : ℕ) (done : Out) (m m' : Machine) → (n ≡ 0 → done ≡ answer 0 m') → when n (session_for o m) (built o m) done ≡ answer n (cond (eqb n 0) m' m)
  unfolding when
  settle n done m m' f = go (eqb n 0) (eqb-true n 0)
    where
      go : (t : Bool) → (t ≡ true → n ≡ 0) → cond t done (out n (session_for o m) (built o m)) ≡ answer n (cond t m' m)
      go true h = f (h refl) ∙ ap (λ (k : ℕ). answer k m') (sym (h refl))
      go false h = refl

  -- ---- retime

  retime_done_lem : (T : ℤ) (m : Machine) → retime_done (session_for o m) T (built o m) ≡ answer 0 (M.retimed T m)
  unfolding with_time with_grid built rebuilt with_history session_for M.retimed slots_laid
  retime_done_lem T m =
      let X : List ℕ = shown_over o m.sets in
      λ i. out 0 (session T (length m.past) (length m.future) m.sets) (with_grid (grid_again o.shape T m.time X X o.buffers.grid i) (built o m))

  retime_sim : (T : ℤ) (m : Machine) → Sound (depth_for o) o.shape m
      → retime_of (session_for o m) T (built o m) ≡ answer (M.retime_number T) (cond (eqb (M.retime_number T) 0) (M.retimed T m) m)
  unfolding retime_of
  retime_sim T m h =
      ap (λ (n : ℕ). when n (session_for o m) (built o m) (retime_done (session_for o m) T (built o m))) (retime_number_lem o ready T m h)
      ∙ settle (M.retime_number T) (retime_done (session_for o m) T (built o m)) m (M.retimed T m) (λ e. retime_done_lem T m)

  -- ---- take

  -- the sets replaced, in front of their surplus, and all made afresh
  anew_done : (n : ℕ) (sets : Sets) (m : Machine) → Sound (depth_for o) o.shape m → SetsSound o.shape sets
      → out_of n (rebuilt (session_for o m) (backward_over o sets) (forward_over o sets) (built o m)) ≡ answer n (M.begun_anew sets m)
  unfolding with_steps with_kept built with_history rebuilt session_for M.begun_anew
  anew_done n sets m h g =
      let S : Session = session m.time 0 0 sets in
      (λ i. out n (session_of o.shape o.side o.limits m.time 0 0 (kept_over sets g.backward g.forward i)) (rebuilt S (backward_over o sets) (forward_over o sets) (built o m)).buffers)
      ∙ ap (out n S)
      (rebuilt_built m.time 0 0 sets (backward_over o sets) (forward_over o sets) m h
      ∙ ap (λ (l : List ℕ). with_history l (rebuilt S (backward_over o sets) (forward_over o sets) o.buffers).buffers) (slots_anew (depth_for o) m h.count sets (surplus o)))

  take_done_lem : (p : List ℕ) (m : Machine) → Bytes p → Sound (depth_for o) o.shape m
      → take_done (session_for o m) p (payload_number o.shape p) (built o m) ≡ answer (payload_number o.shape p) (M.taken o.shape p m)
  unfolding built with_history rebuilt session_for M.taken M.taken_sets
  take_done_lem p m bytes h =
      let n : ℕ = payload_number o.shape p in
      (λ i. out_of n (rebuilt (session_for o m) (backward_over_lem o.shape p m.sets.backward o.buffers.backward h.sets.backward i) (forward_over_lem o.shape p m.sets.forward o.buffers.forward h.sets.forward i) (built o m)))
      ∙ anew_done n (M.taken_sets o.shape p m.sets) m h (taken_sets_sound (depth_for o) o.shape p m.sets bytes h.sets)

  take_sim : (p : List ℕ) (m : Machine) → Bytes p → Sound (depth_for o) o.shape m
      → take_of (session_for o m) p (built o m)
      ≡ answer (payload_number o.shape p) (cond (M.renews o.shape (payload_number o.shape p)) (M.taken o.shape p m) m)
  unfolding take_of session_for M.renews
  take_sim p m bytes h =
      ap (λ (n : ℕ). cond (renews o.shape n) (take_done (session_for o m) p n (built o m)) (out n (session_for o m) (built o m))) (take_number_lem o ready p m h)
      ∙ go (renews o.shape (payload_number o.shape p))
    where
      go : (t : Bool) → cond t (take_done (session_for o m) p (payload_number o.shape p) (built o m)) (out (payload_number o.shape p) (session_for o m) (built o m))
          ≡ answer (payload_number o.shape p) (cond t (M.taken o.shape p m) m)
      go true = take_done_lem p m bytes h
      go false = refl

  -- ---- pool

  pool_done_lem : (p q : List ℕ) (m : Machine) → Bytes p → Bytes q → Sound (depth_for o) o.shape m
      → pool_done (session_for o m) p q (built o m) ≡ answer 0 (M.after_pool o.shape p q m)
  unfolding built with_history rebuilt session_for M.after_pool M.pooled_sets pooled_backward pooled_forward
  pool_done_lem p q m hp hq h =
      let s : FieldShape = o.shape in
      (λ i. out_of 0 (rebuilt (session_for o m) (pooled_over s (has_backward s) backward_at p q m.sets.backward o.buffers.backward h.sets.backward i) (pooled_over s (has_forward s) (forward_at s) p q m.sets.forward o.buffers.forward h.sets.forward i) (built o m)))
      ∙ anew_done 0 (M.pooled_sets s p q m.sets) m h (pooled_sets_sound (depth_for o) s p q m.sets hp hq h.sets)

  pool_sim : (p q : List ℕ) (m : Machine) → Bytes p → Bytes q → Sound (depth_for o) o.shape m
      → pool_of (session_for o m) p q (built o m)
      ≡ answer (both_number o.shape p q) (cond (eqb (both_number o.shape p q) 0) (M.after_pool o.shape p q m) m)
  unfolding pool_of
  pool_sim p q m hp hq h =
      ap (λ (n : ℕ). when n (session_for o m) (built o m) (pool_done (session_for o m) p q (built o m))) (pool_number_lem o ready p q m h)
      ∙ settle (both_number o.shape p q) (pool_done (session_for o m) p q (built o m)) m (M.after_pool o.shape p q m) (λ e. pool_done_lem p q m hp hq h)

  -- ---- an edit of a built session

  -- the side and the block of an edit
  module _ (m : Machine) (h : Sound (depth_for o) o.shape m) (side block : ℕ) (v : BlockVector) (two : (side ≡ 1) ⊎ (side ≡ 2)) (below : block < blocks_of o.shape) (holds : Holds v) where
    shown_two : (o.side ≡ 1) ⊎ (o.side ≡ 2)
    unfolding side_accepted
    shown_two = one_of o.side 1 2 ready.side

    backward_stored : edited_backward side block v (backward_over o m.sets) ≡ backward_over o (stored side block v m.sets)
    unfolding stored stored_in
    backward_stored = go (eqb side 1)
      where
        go : (t : Bool) → cond t (with_entry (backward_over o m.sets) block v) (backward_over o m.sets)
            ≡ over (stored_in t block v m.sets).backward o.buffers.backward
        go true = written_over m.sets.backward o.buffers.backward block v (entry_room o.shape block _ below (omega arith))
        go false = refl

    forward_stored : edited_forward side block v (forward_over o m.sets) ≡ forward_over o (stored side block v m.sets)
    unfolding stored stored_in
    forward_stored = go (eqb side 1)
      where
        go : (t : Bool) → cond t (forward_over o m.sets) (with_entry (forward_over o m.sets) block v)
            ≡ over (stored_in t block v m.sets).forward o.buffers.forward
        go true = refl
        go false = written_over m.sets.forward o.buffers.forward block v (entry_room o.shape block _ below (omega arith))

    -- the entry that stands there
    present : entry_at (set_of side (backward_over o m.sets) (forward_over o m.sets)) block ≡ entry_of side block m.sets
    unfolding set_of entry_of
    present = go (eqb side 1)
      where
        go : (t : Bool) → entry_at (cond t (backward_over o m.sets) (forward_over o m.sets)) block ≡ entry_at (cond t m.sets.backward m.sets.forward) block
        go true = entry_over m.sets.backward o.buffers.backward block (entry_room o.shape block _ below (omega arith))
        go false = entry_over m.sets.forward o.buffers.forward block (entry_room o.shape block _ below (omega arith))

    -- session and buffers of the edited sets
    edit_built : edited (session_for o m) side block v (built o m)
        ≡ state_of (with_kept (kept_for o (stored side block v m.sets)) (session_for o m)) (with_history (slots_laid (depth_for o) m (surplus o)) (rebuilt (session_for o m) (backward_over o (stored side block v m.sets)) (forward_over o (stored side block v m.sets)) o.buffers).buffers)
    unfolding edited with_history built session_for
    edit_built =
        let S : Session = session_for o m in
        let after : Sets = stored side block v m.sets in
        let g : SetsSound o.shape after = stored_sound o.shape side block below m.sets v h.sets holds in
        let H : List ℕ = slots_laid (depth_for o) m (surplus o) in
        let lB : set_size o.shape ≤ length (backward_over o m.sets) = rw (length_backward o ready m h) (lent_room o ready).backward in
        let lF : set_size o.shape ≤ length (forward_over o m.sets) = rw (length_forward o ready m h) (lent_room o ready).forward in
        (λ i. state_of (edit_counts lB lF i) (with_history H (edit_one lB lF i)))
        ∙ (λ i. state_of (with_kept (counts_from o.shape o.limits o.buffers.table o.side (backward_stored i) (forward_stored i)) S) (with_history H (rebuilt S (backward_stored i) (forward_stored i) o.buffers).buffers))
        ∙ (λ i. state_of (with_kept (kept_over after g.backward g.forward i) S) (with_history H (rebuilt S (backward_over o after) (forward_over o after) o.buffers).buffers))
      where
        edit_one : set_size o.shape ≤ length (backward_over o m.sets) → set_size o.shape ≤ length (forward_over o m.sets)
            → (edited (session_for o m) side block v (rebuilt (session_for o m) (backward_over o m.sets) (forward_over o m.sets) o.buffers).buffers).buffers
            ≡ (rebuilt (session_for o m) (edited_backward side block v (backward_over o m.sets)) (edited_forward side block v (forward_over o m.sets)) o.buffers).buffers
        edit_one lB lF = edit_rebuilt (session_for o m) o.buffers (backward_over o m.sets) (forward_over o m.sets) block v below lB lF holds o.side side shown_two two

        edit_counts : set_size o.shape ≤ length (backward_over o m.sets) → set_size o.shape ≤ length (forward_over o m.sets)
            → (edited (session_for o m) side block v (rebuilt (session_for o m) (backward_over o m.sets) (forward_over o m.sets) o.buffers).buffers).session
            ≡ with_kept (counts_from o.shape o.limits o.buffers.table o.side (edited_backward side block v (backward_over o m.sets)) (edited_forward side block v (forward_over o m.sets))) (session_for o m)
        edit_counts lB lF =
            edit_kept (session_for o m) o.buffers (backward_over o m.sets) (forward_over o m.sets) block v below lB lF holds (accepted_facts o.shape ready.shape) side
            (sym (kept_over m.sets h.sets.backward h.sets.forward))

  -- ---- put

  put_done_lem : (side block : ℕ) (v : BlockVector) (gesture : ℕ) (m : Machine) → Sound (depth_for o) o.shape m → PutGood o.shape side block v gesture
      → put_done (session_for o m) side block v gesture (built o m) ≡ answer 0 (M.after_put (depth_for o) side block v gesture m)
  unfolding with_step with_steps with_kept session_for M.after_put M.put_step slot_of built with_history rebuilt
  put_done_lem side block v gesture m h g =
      let H : List ℕ = slots_laid (depth_for o) m (surplus o) in
      let p : BlockVector → Slot = λ w. record { block = block; side = side; old = w; new = v; gesture = gesture } in
      let E : State = edited (session_for o m) side block v (built o m) in
      let most : length m.past ≤ depth_for o = omega (arith, h.count) in
      (λ i. out 0 (with_step (depth_built o ready m h i) E.session) (with_history (appended (depth_built o ready m h i) (length m.past) (p (present m h side block v g.side_is g.within g.holds i)) H) E.buffers))
      ∙ (λ i. out 0 (with_step (depth_for o) (edit_built m h side block v g.side_is g.within g.holds i).session)
      (with_history (slots_put (depth_for o) m h.count side block v gesture (surplus o) (depth_least o ready) i) (edit_built m h side block v g.side_is g.within g.holds i).buffers))
      ∙ (λ i. out 0 (session m.time (sym (recorded_length (depth_for o) m.past (M.put_step side block v gesture m.sets) (depth_least o ready) most) i) 0 (stored side block v m.sets)) (built o (M.after_put (depth_for o) side block v gesture m)))

  put_sim : (side block : ℕ) (v : BlockVector) (gesture : ℕ) (m : Machine) → Sound (depth_for o) o.shape m → PutTyped side block v gesture
      → put_of (session_for o m) side block v gesture (built o m)
      ≡ answer (M.put_number o.shape side block v) (cond (eqb (M.put_number o.shape side block v) 0) (M.after_put (depth_for o) side block v gesture m) m)
  unfolding put_of
  put_sim side block v gesture m h t =
      ap (λ (n : ℕ). when n (session_for o m) (built o m) (put_done (session_for o m) side block v gesture (built o m))) (put_number_lem o ready side block v m h)
      ∙ settle (M.put_number o.shape side block v) (put_done (session_for o m) side block v gesture (built o m)) m (M.after_put (depth_for o) side block v gesture m)
      (λ e. put_done_lem side block v gesture m h (put_good o.shape side block v gesture t e))

  -- ---- undo and redo

  -- the step that the slot used holds gives its entry to its block; past and future become other lists, in the same slots
  step_sim : (back : Bool) (m : Machine) → Sound (depth_for o) o.shape m → (p : M.Step) → StepSound o.shape p → (v : BlockVector) → v ≡ entry_used back (slot_of p) → Holds v
      → step_at (built o m).history (slot_used back (session_for o m)) ≡ slot_of p → (past future : List M.Step)
      → let n : Machine = record { sets = stored p.side p.block v m.sets; time = m.time; past = past; future = future } in
      step_moved back (with_kept (kept_for o n.sets) (session_for o m)) ≡ session m.time (length past) (length future) n.sets → slots_laid (depth_for o) n (surplus o) ≡ slots_laid (depth_for o) m (surplus o)
      → step_done back (session_for o m) (built o m) ≡ answer 0 n
  unfolding built with_history rebuilt session_for slot_of
  step_sim back m h p g v ev holds q past future counts e =
      let S : Session = session_for o m in
      let sets : Sets = stored p.side p.block v m.sets in
      ap (λ (t : Slot). let d : State = edited S t.side t.block (entry_used back t) (built o m) in out 0 (step_moved back d.session) d.buffers) q
      ∙ ap (λ (w : BlockVector). let d : State = edited S p.side p.block w (built o m) in out 0 (step_moved back d.session) d.buffers) (sym ev)
      ∙ ap (λ (d : State). out 0 (step_moved back d.session) d.buffers) (edit_built m h p.side p.block v g.side g.block holds)
      ∙ (λ i. out 0 (counts i) (with_history (sym e i) (rebuilt S (backward_over o sets) (forward_over o sets) o.buffers).buffers))

  -- one step back, and n
  step_back : (m : Machine) → Sound (depth_for o) o.shape m → (e : M.Ends) → list_of e ≡ m.past → 1 ≤ length m.past
      → step_done true (session_for o m) (built o m) ≡ answer 0 (M.back e m)
  unfolding session_for M.back list_of built with_history slot_of step_moved with_steps with_kept
  step_back m h M.none e some = let n : 0 ≡ length m.past = ap length e in let z : ⊥ = omega arith in absurd z
  step_back m h (M.some ps p) e some =
      let g : StepSound o.shape p = last_sound (depth_for o) o.shape m h ps p e in
      let n = length_last m.past ps p e in
      let k : length m.past - 1 ≡ length ps = omega arith in
      step_sim true m h p g p.old refl g.old (slot_back (depth_for o) m (surplus o) ps p e (fits o ready p g)) ps (p ∷ m.future)
      (λ i. session m.time (k i) (add-one (length m.future) i) (stored p.side p.block p.old m.sets)) (slots_back (depth_for o) m (surplus o) (M.some ps p) e)

  steps_back : (n : ℕ) (m : Machine) → Sound (depth_for o) o.shape m → n ≤ length m.past → steps_done true n (session_for o m) (built o m) ≡ answer 0 (M.backs n m)
  unfolding steps_done M.backs
  steps_back zero m h l = refl
  steps_back (suc n) m h l =
      let e = list_again m.past in
      let m' : Machine = M.back (M.ends_of m.past) m in
      let c = (lists_back m (M.ends_of m.past) e).1 in
      ap (λ (a : Out). steps_done true n a.session a.after) (step_back m h (M.ends_of m.past) e (omega arith))
      ∙ steps_back n m' (back_sound (depth_for o) o.shape m (M.ends_of m.past) e h) (omega arith)

  -- one step forth, and n
  step_forth : (m : Machine) → Sound (depth_for o) o.shape m → (q : List M.Step) → q ≡ m.future → 1 ≤ length m.future
      → step_done false (session_for o m) (built o m) ≡ answer 0 (M.forth q m)
  unfolding session_for M.forth built with_history slot_of step_moved with_steps with_kept
  step_forth m h [] e some = let n : 0 ≡ length m.future = ap length e in let z : ⊥ = omega arith in absurd z
  step_forth m h (p ∷ ps) e some =
      let g : StepSound o.shape p = next_sound (depth_for o) o.shape m h p ps e in
      let n : length m.future ≡ suc (length ps) = ap length (sym e) in
      let k : length m.future - 1 ≡ length ps = omega arith in
      step_sim false m h p g p.new refl g.new (slot_forth (depth_for o) m (surplus o) p ps e (fits o ready p g)) (m.past ++ (p ∷ [])) ps
      (λ i. session m.time (sym (length-append m.past (p ∷ [])) i) (k i) (stored p.side p.block p.new m.sets)) (slots_forth (depth_for o) m (surplus o) (p ∷ ps) e)

  steps_forth : (n : ℕ) (m : Machine) → Sound (depth_for o) o.shape m → n ≤ length m.future → steps_done false n (session_for o m) (built o m) ≡ answer 0 (M.forths n m)
  unfolding steps_done M.forths
  steps_forth zero m h l = refl
  steps_forth (suc n) m h l =
      let m' : Machine = M.forth m.future m in
      let c = (lists_forth m m.future refl).1 in
      ap (λ (a : Out). steps_done false n a.session a.after) (step_forth m h m.future refl (omega arith))
      ∙ steps_forth n m' (forth_sound (depth_for o) o.shape m m.future refl h) (omega arith)

  -- the whole run
  undo_sim : (m : Machine) → Sound (depth_for o) o.shape m → (q : List M.Step) → q ≡ m.past
      → undo_of (session_for o m) (built o m) ≡ answer (M.undone q m).number (M.undone q m).next
  unfolding run_of when session_for M.undone built with_history
  undo_sim m h [] e =
      ap (λ (n : ℕ). when n (session_for o m) (built o m) (run_done true (session_for o m) (built o m))) (run_empty o ready true m h (ap length (sym e)))
  undo_sim m h (p ∷ ps) e =
      let some : suc (length ps) ≡ length m.past = ap length e in
      let H : List ℕ = slots_laid (depth_for o) m (surplus o) in
      ap (λ (k : ℕ). when k (session_for o m) (built o m) (run_done true (session_for o m) (built o m)))
      (run_some o ready true m h (omega arith) (undo_slots_good o ready m h (run_back H (length m.past)) (run_back_most H (length m.past))))
      ∙ ap (λ (k : ℕ). steps_done true k (session_for o m) (built o m)) (run_back_slots (depth_for o) m (surplus o))
      ∙ steps_back (M.past_run m) m h (past_run_most m)

  redo_sim : (m : Machine) → Sound (depth_for o) o.shape m → (q : List M.Step) → q ≡ m.future
      → redo_of (session_for o m) (built o m) ≡ answer (M.redone q m).number (M.redone q m).next
  unfolding run_of when session_for M.redone built with_history
  redo_sim m h [] e =
      ap (λ (n : ℕ). when n (session_for o m) (built o m) (run_done false (session_for o m) (built o m))) (run_empty o ready false m h (ap length (sym e)))
  redo_sim m h (p ∷ ps) e =
      let some : suc (length ps) ≡ length m.future = ap length e in
      let H : List ℕ = slots_laid (depth_for o) m (surplus o) in
      ap (λ (k : ℕ). when k (session_for o m) (built o m) (run_done false (session_for o m) (built o m)))
      (run_some o ready false m h (omega arith) (redo_slots_good o ready m h (run_ahead H (length m.past) (length m.future)) (run_ahead_most H (length m.past) (length m.future))))
      ∙ ap (λ (k : ℕ). steps_done false k (session_for o m) (built o m)) (run_ahead_slots (depth_for o) m (surplus o))
      ∙ steps_forth (M.future_run m) m h (future_run_most m)

  -- ---- one call, and a list of calls

  pub call_sim : (x : Call) (m : Machine) → Typed x → Sound (depth_for o) o.shape m
      → call_of x (session_for o m) (built o m) ≡ answer (M.step (depth_for o) o.shape x m).number (M.step (depth_for o) o.shape x m).next
  unfolding call_of M.step Typed
  call_sim (C.take p) m t h = take_sim p m t h
  call_sim (C.put side block v gesture) m t h = put_sim side block v gesture m h t
  call_sim C.undo m t h = undo_sim m h m.past refl
  call_sim C.redo m t h = redo_sim m h m.future refl
  call_sim (C.retime T) m t h = retime_sim T m h
  call_sim (C.pool p q) m t h = pool_sim p q m t.0 t.1 h

  -- what a run of the machine leaves of session and buffers
  abbrev pub leaves : M.Ran → Played
  leaves r = record { numbers = r.numbers; session = session_for o r.end; buffers = built o r.end }

  pub play_sim : (xs : List Call) (m : Machine) → AllTyped xs → Sound (depth_for o) o.shape m
      → play xs (session_for o m) (built o m) ≡ leaves (M.run (depth_for o) o.shape xs m)
  unfolding play M.run AllCalls
  play_sim [] m t h = refl
  play_sim (x ∷ xs) m t h =
      let n : Machine = (M.step (depth_for o) o.shape x m).next in
      let s : Sound (depth_for o) o.shape n = step_sound (depth_for o) o.shape x m (depth_least o ready) t.0 h in
      play_turn x xs (session_for o m) (built o m) _ (call_sim x m t.0 h)
      ∙ ap (with_number (M.step (depth_for o) o.shape x m).number) (play_sim xs n t.1 s)

  -- ---- open

  pub open_built : (T : ℤ) → time_accepted T ≡ true → open_of o.shape o.side o.limits T o.buffers ≡ answer 0 (M.opened o.shape T)
  unfolding open_of open_number when built with_history rebuilt with_steps with_kept session_for M.opened depth_for
  open_built T t =
      let A : Out = open_done o.shape o.side o.limits T o.buffers in
      let Z : Sets = (M.opened o.shape T).sets in
      let z : length Z.backward ≡ set_size o.shape = length-replicate _ _ in
      ap (λ (n : ℕ). when n no_session o.buffers A) (given_zero o ready T t)
      ∙ (λ i. out 0 (session_of o.shape o.side o.limits T 0 0 (kept_over Z z z i)) A.after)
      ∙ ap (λ (l : List ℕ). out 0 (session T 0 0 Z) (with_history l A.after)) (slots_opened (depth_for o) o.shape T o.buffers.history)
