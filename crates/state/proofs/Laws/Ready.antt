-- A call whose number is 0 is ready: its tests as plain facts.
use Rattle.std.specs.Prelude.{◌≡◌, Bool, true, false, ◌&&◌, List, [], leb, ℤ, length}
use Rattle.std.proofs.Common.{sym, ◌∙◌, arith, leb-true, ltb-true}
use Rattle.std.proofs.Math.Path.{ap, subst}
use Prim.Native.Nat.{ℕ, ◌+◌, ◌-◌, ◌*◌, ◌≤◌, ◌<◌}
use Rattle.arith.specs.Booleans.{and_left, and_right}
use Rattle.record.specs.declared.entry.BlockVector.{BlockVector}
use Rattle.record.specs.declared.shape.FieldShape.{FieldShape}
use Rattle.record.specs.Checks.{side_number}
use Rattle.record.specs.Checks.Laws.{length_ready}
use Rattle.record.specs.Numbers.{first, unless}
use Rattle.record.specs.Numbers.Laws.{both_zero, unless_zero}
use Rattle.record.specs.Shape.{blocks_of, set_size, grid_size, plane_size, shape_accepted}
use Rattle.record.specs.Shape.Laws.{Accepted, accepted_facts, number_yes, ranged}
use Rattle.pooling.specs.Pool.{both_number}
use Rattle.scatter.specs.Geometry.{time_accepted}
use Rattle.maps.specs.declared.class.Counts.{Counts}
use Rattle.maps.specs.Luma.{table_size}
use Rattle.history.specs.declared.Step.{Step}
use Rattle.history.specs.History.{slot_size, depth_of, step_at, Fitting}
use Rattle.history.specs.History.Laws.{depth_within, step_fits}
use Rattle.runs.proofs.Laws.Slots.{run_back_most, run_ahead_most}
use Rattle.record.specs.Bytes.{Bytes}
use Rattle.record.specs.Entries.{EntryTyped, side_accepted, Holds}
use Rattle.scatter.specs.Geometry.Laws.{timed, number_time, number_timed}
use Rattle.state.specs.declared.session.Session.{Session}
use Rattle.state.specs.declared.session.Sizes.{Sizes}
use Rattle.state.specs.Numbers.{sized, block_good, sad_good, counts_good, place_good, slot_good, slots_good, shown_number, carried_number, pool_number, put_number, steps_number, run_number, retime_number}
use Rattle.state.specs.Numbers.Laws.{slots_each}
use Rattle.state.specs.Buffers.{Buffers, sizes_of, Out, out}
use Rattle.state.specs.Calls.{with_history, edited, step_done}
use Rattle.state.proofs.Laws.Calls.{edited_session}
use Rattle.state.specs.Sessions.{with_steps, with_kept}
use Rattle.state.specs.Steps.{steps_of, no_step_number, run_length, run_start, slot_used, entry_used, step_moved}
use Rattle.state.specs.Ready.{SessionRoom, SessionReady, PoolReady, PutReady, StepReady, RunReady, EditReady}

pub sized_room : (s : FieldShape) (z : Sizes) → sized s z ≡ true → SessionRoom s z
unfolding sized
sized_room s z e₉ =
    let a₁ : Bool = leb (set_size s) z.backward in
    let a₂ : Bool = leb (set_size s) z.forward in
    let a₃ : Bool = leb table_size z.table in
    let a₄ : Bool = leb (grid_size s) z.grid in
    let a₅ : Bool = leb (plane_size s) z.xs in
    let a₆ : Bool = leb (plane_size s) z.ys in
    let a₇ : Bool = leb (blocks_of s) z.averages in
    let a₈ : Bool = leb (blocks_of s) z.map in
    let a₉ : Bool = leb slot_size z.history in
    let e₈ = and_left (a₁ && a₂ && a₃ && a₄ && a₅ && a₆ && a₇ && a₈) a₉ e₉ in
    let e₇ = and_left (a₁ && a₂ && a₃ && a₄ && a₅ && a₆ && a₇) a₈ e₈ in
    let e₆ = and_left (a₁ && a₂ && a₃ && a₄ && a₅ && a₆) a₇ e₇ in
    let e₅ = and_left (a₁ && a₂ && a₃ && a₄ && a₅) a₆ e₆ in
    let e₄ = and_left (a₁ && a₂ && a₃ && a₄) a₅ e₅ in
    let e₃ = and_left (a₁ && a₂ && a₃) a₄ e₄ in
    let e₂ = and_left (a₁ && a₂) a₃ e₃ in
    record {
      backward = leb-true _ _ (and_left a₁ a₂ e₂);
      forward = leb-true _ _ (and_right a₁ a₂ e₂);
      table = leb-true _ _ (and_right (a₁ && a₂) a₃ e₃);
      grid = leb-true _ _ (and_right (a₁ && a₂ && a₃) a₄ e₄);
      xs = leb-true _ _ (and_right (a₁ && a₂ && a₃ && a₄) a₅ e₅);
      ys = leb-true _ _ (and_right (a₁ && a₂ && a₃ && a₄ && a₅) a₆ e₆);
      averages = leb-true _ _ (and_right (a₁ && a₂ && a₃ && a₄ && a₅ && a₆) a₇ e₇);
      map = leb-true _ _ (and_right (a₁ && a₂ && a₃ && a₄ && a₅ && a₆ && a₇) a₈ e₈);
      history = leb-true _ _ (and_right (a₁ && a₂ && a₃ && a₄ && a₅ && a₆ && a₇ && a₈) a₉ e₉);
    }

-- ---- what every session call carries

module _ (s : FieldShape) (side : ℕ) (z : Sizes) (e : shown_number s side z ≡ 0) where
  pub shape_holds : shape_accepted s ≡ true
  unfolding shown_number
  shape_holds = number_yes s (both_zero _ _ e).0

  pub size_holds : sized s z ≡ true
  unfolding shown_number
  size_holds = unless_zero (sized s z) 3 (λ q. omega arith) (both_zero _ _ (both_zero _ _ e).1).0

  pub side_holds : side_accepted side ≡ true
  unfolding shown_number side_number
  side_holds = unless_zero (side_accepted side) 8 (λ q. omega arith) (both_zero _ _ (both_zero _ _ e).1).1

  pub shown_accepted : Accepted s
  shown_accepted = accepted_facts s shape_holds

  -- with a time that is accepted too
  shown_ready : (T : ℤ) → time_accepted T ≡ true → SessionReady s T z
  shown_ready T t = record { accepted = shown_accepted; timed = timed T t; room = sized_room s z size_holds }

module _ (s : FieldShape) (side : ℕ) (T : ℤ) (z : Sizes) (e : carried_number s side T z ≡ 0) where
  pub carried_shown : shown_number s side z ≡ 0
  unfolding carried_number
  carried_shown = (both_zero _ _ e).0

  pub time_holds : time_accepted T ≡ true
  unfolding carried_number
  time_holds = number_time T (both_zero _ _ e).1

  pub carried_accepted : Accepted s
  carried_accepted = shown_accepted s side z carried_shown

  pub carried_ready : SessionReady s T z
  carried_ready = shown_ready s side z carried_shown T time_holds

-- the block of a place is one of the shape's
place_within : (s : FieldShape) (side block : ℕ) → place_good s side block ≡ true → block < blocks_of s
unfolding place_good block_good
place_within s side block e = ltb-true _ _ (and_right (side_accepted side) (block_good s block) e)

-- ---- what the parts of a call require

-- an edit of a session that is ready, whatever its history
pub edit_ready : (s : Session) (block : ℕ) (v : BlockVector) (b : Buffers) (h : List ℕ) → SessionReady s.shape s.time (sizes_of b) → block < blocks_of s.shape → Holds v
    → EditReady s block v (with_history h b)
unfolding with_history
edit_ready s block v b h r within holds =
    record {
      accepted = r.accepted;
      timed = r.timed;
      backward = r.room.backward;
      forward = r.room.forward;
      table = r.room.table;
      grid = r.room.grid;
      xs = r.room.xs;
      ys = r.room.ys;
      averages = r.room.averages;
      map = r.room.map;
      within = within;
      holds = holds;
    }

-- sets that were renewed have the room that they had
pub ready_renewed : (s : FieldShape) (T : ℤ) (z : Sizes) (backward forward : ℕ) → backward ≡ z.backward → forward ≡ z.forward → SessionReady s T z
    → SessionReady s T (record { backward = backward; forward = forward; table = z.table; grid = z.grid; xs = z.xs; ys = z.ys; averages = z.averages; map = z.map; history = z.history })
ready_renewed s T z backward forward e f r =
    record {
      accepted = r.accepted;
      timed = r.timed;
      room =
          record {
            backward = rw e r.room.backward;
            forward = rw f r.room.forward;
            table = r.room.table;
            grid = r.room.grid;
            xs = r.room.xs;
            ys = r.room.ys;
            averages = r.room.averages;
            map = r.room.map;
            history = r.room.history;
          };
    }

-- ---- pool

pub pool_ready : (s : Session) (p q : List ℕ) (b : Buffers) → pool_number s p q (sizes_of b) ≡ 0 → PoolReady s p q b
unfolding pool_number both_number
pool_ready s p q b e =
    let a = both_zero _ _ e in
    let f = both_zero _ _ a.1 in
    record { ready = carried_ready s.shape s.side s.time (sizes_of b) a.0; first_is = f.0; second_is = f.1 }

-- ---- put

-- 8 bytes hold an entry whose sad was accepted
pub entry_held : (v : BlockVector) → EntryTyped v → sad_good v.sad ≡ true → Holds v
unfolding sad_good
entry_held v f e =
    let q = ranged 0 16777215 v.sad e in
    record { x = f.x; y = f.y; sad_is = q.is; sad_most_lem = omega (arith, q.most); luma = f.luma }

module _ (s : Session) (side block : ℕ) (v : BlockVector) (b : Buffers) (e : put_number s side block v.sad (sizes_of b) ≡ 0) where
  put_rest : first (unless (place_good s.shape side block) 8) (first (unless (time_accepted s.time && sad_good v.sad) 7) (unless (counts_good s (sizes_of b)) 11)) ≡ 0
  unfolding put_number
  put_rest = (both_zero _ _ e).1

  put_values : (time_accepted s.time && sad_good v.sad) ≡ true
  put_values = unless_zero (time_accepted s.time && sad_good v.sad) 7 (λ q. omega arith) (both_zero _ _ (both_zero _ _ put_rest).1).0

  put_counts : s.past + s.future ≤ depth_of (length b.history)
  unfolding counts_good
  put_counts = length_ready _ _ 11 (λ q. omega arith) (both_zero _ _ (both_zero _ _ put_rest).1).1

  pub put_ready : EntryTyped v → PutReady s block v b
  unfolding put_number
  put_ready f =
      record {
        ready = shown_ready s.shape s.side (sizes_of b) (both_zero _ _ e).0 s.time (and_left (time_accepted s.time) (sad_good v.sad) put_values);
        within = place_within s.shape side block (unless_zero (place_good s.shape side block) 8 (λ q. omega arith) (both_zero _ _ put_rest).0);
        holds = entry_held v f (and_right (time_accepted s.time) (sad_good v.sad) put_values);
        counts = put_counts;
      }

-- ---- undo and redo

-- the number of no step is one
pub no_step_some : (back : Bool) → no_step_number back ≡ 0 → ⊥
no_step_some true e = omega arith
no_step_some false e = omega arith

-- the slot that is used is one of the steps'
pub slot_below : (back : Bool) (s : Session) → 1 ≤ steps_of back s → slot_used back s < s.past + s.future
slot_below true s h = omega arith
slot_below false s h = omega arith

-- the run has no more steps than there are
pub run_most : (back : Bool) (s : Session) (h : List ℕ) → run_length back s h ≤ steps_of back s
run_most true s h = run_back_most h s.past
run_most false s h = run_ahead_most h s.past s.future

-- so many of them lie in the slots of the steps
pub run_below : (back : Bool) (s : Session) (n : ℕ) → n ≤ steps_of back s → run_start back s n + n ≤ s.past + s.future
run_below true s n h = omega arith
run_below false s n h = omega arith

-- what passed before any slot is read
module _ (back : Bool) (s : Session) (z : Sizes) (e : steps_number back s z ≡ 0) where
  pub steps_accepted : Accepted s.shape
  unfolding steps_number
  steps_accepted = carried_accepted s.shape s.side s.time z (both_zero _ _ e).0

  pub steps_counts : s.past + s.future ≤ depth_of z.history
  unfolding steps_number counts_good
  steps_counts = length_ready _ _ 11 (λ q. omega arith) (both_zero _ _ (both_zero _ _ e).1).1

  pub steps_room : slot_size * (s.past + s.future) ≤ z.history
  steps_room = omega (arith, steps_counts, depth_within z.history)

-- n steps with one left at least: the first is ready, and after it so is the rest
module _ (back : Bool) (n : ℕ) (s : Session) (b : Buffers) (some : 1 ≤ n) (r : RunReady back n s b) where
  pub run_step : StepReady back s b
  run_step = record { ready = r.ready; some = omega (arith, r.few); within = first_slot back r.few r.within; counts = r.counts }
    where
      first_slot : (t : Bool) → n ≤ steps_of t s → ((j : ℕ) → run_start t s n ≤ j → j < run_start t s n + n → (step_at b.history j).block < blocks_of s.shape)
          → (step_at b.history (slot_used t s)).block < blocks_of s.shape
      first_slot true few w = w (s.past - 1) (omega arith) (omega arith)
      first_slot false few w = w s.past (omega arith) (omega arith)

  module _ (s' : Session) (b' : Buffers) (made : out 0 s' b' ≡ step_done back s b) (sizes : sizes_of b' ≡ sizes_of b) where
    slots : b'.history ≡ b.history
    unfolding edited
    slots = ap (λ (o : Out). o.after.history) made

    -- whatever the step made of the kept counts
    moved_ready : (kept : Counts) → RunReady back (n - 1) (step_moved back (with_kept kept s)) b'
    unfolding step_moved with_steps with_kept
    moved_ready kept = go back r.few r.within
      where
        session : SessionReady s.shape s.time (sizes_of b')
        session = subst (SessionReady s.shape s.time) (sym sizes) r.ready

        counts : (m : ℕ) → m ≤ depth_of (length b.history) → m ≤ depth_of (length b'.history)
        counts m = subst (λ (h : List ℕ). m ≤ depth_of (length h)) (sym slots)

        named : (j : ℕ) → (step_at b.history j).block < blocks_of s.shape → (step_at b'.history j).block < blocks_of s.shape
        named j = subst (λ (h : List ℕ). (step_at h j).block < blocks_of s.shape) (sym slots)

        go : (t : Bool) → n ≤ steps_of t s → ((j : ℕ) → run_start t s n ≤ j → j < run_start t s n + n → (step_at b.history j).block < blocks_of s.shape)
            → RunReady t (n - 1) (step_moved t (with_kept kept s)) b'
        go true few w =
            record {
              ready = session;
              few = omega arith;
              within = λ j l q. named j (w j (omega arith) (omega arith));
              counts = counts (s.past - 1 + (s.future + 1)) (omega (arith, r.counts));
            }
        go false few w =
            record {
              ready = session;
              few = omega arith;
              within = λ j l q. named j (w j (omega arith) (omega arith));
              counts = counts (s.past + 1 + (s.future - 1)) (omega (arith, r.counts));
            }

    pub run_rest : RunReady back (n - 1) s' b'
    run_rest =
        let e : s' ≡ step_moved back (with_kept _ s) = ap (λ (o : Out). o.session) made ∙ ap (step_moved back) (edited_session s _ _ _ b) in
        subst (λ (t : Session). RunReady back (n - 1) t b') (sym e) (moved_ready _)

module _ (back : Bool) (s : Session) (b : Buffers) where
  pub run_ready : run_number back s b.history (sizes_of b) ≡ 0 → RunReady back (run_length back s b.history) s b
  unfolding run_number steps_number slot_good
  run_ready e =
      let n : ℕ = run_length back s b.history in
      let k : ℕ = run_start back s n in
      let a = both_zero _ _ e in
      record {
        ready = carried_ready s.shape s.side s.time (sizes_of b) (both_zero _ _ a.0).0;
        few = run_most back s b.history;
        within = λ j l q. place_within s.shape _ _ (slots_each s.shape b.history k n (unless_zero (slots_good s.shape b.history k n) 11 (λ z. omega arith) a.1) j l q);
        counts = steps_counts back s (sizes_of b) a.0;
      }

  -- the step that was read, and the entry of it that is stored
  pub step_edit : (p : Step) (v : BlockVector) → StepReady back s b → p ≡ step_at b.history (slot_used back s) → v ≡ entry_used back p → Bytes b.history
      → EditReady s p.block v (with_history [] b)
  step_edit p v r e u bytes =
      edit_ready s p.block v b [] r.ready
      (subst (λ (q : Step). q.block < blocks_of s.shape) (sym e) r.within)
      (subst Holds (sym (u ∙ ap (entry_used back) e)) (held back (step_fits b.history (slot_used back s) bytes)))
    where
      held : {q : Step} (t : Bool) → Fitting q → Holds (entry_used t q)
      held true f = f.old
      held false f = f.new

-- ---- retime

pub retime_ready : (s : Session) (T : ℤ) (z : Sizes) → retime_number s T z ≡ 0 → SessionReady s.shape T z
unfolding retime_number
retime_ready s T z e =
    let r = carried_ready s.shape s.side s.time z (both_zero _ _ e).0 in
    record { accepted = r.accepted; timed = number_timed T (both_zero _ _ e).1; room = r.room }
