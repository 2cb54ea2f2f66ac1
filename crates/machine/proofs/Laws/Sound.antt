-- Every state that a list of calls leads to is sound: both sets have 8n bytes, past and future together at most D steps.
use Rattle.std.specs.Prelude.{◌≡◌, ◌⊎◌, ◌≢◌, cond, ◌&&◌, ◌||◌, ltb, ℤ, take as front, drop}
use Rattle.std.proofs.Math.Path.{refl, ap, subst}
use Rattle.std.proofs.Common.{sym, ◌∙◌, arith}
use Rattle.std.proofs.Math.Bool.{Bool, true, false}
use mathlib.Core.List.{List, [], ◌∷◌, ◌++◌}
use Prim.Native.Nat.{ℕ, zero, suc, ◌≤◌, ◌<◌}
use borrow.Author.Tests.{eqb-true, ltb-true}
use Rattle.std.proofs.Math.Dec.{eqb}
use Rattle.std.proofs.Math.ListN.{length, length-append, length-take}
use Rattle.std.proofs.lemmas.List.{length-replicate}
use Rattle.arith.specs.Booleans.{and_left, and_right, one_of, cond_elim}
use Rattle.arith.specs.Splice.Laws.{length_over}
use Rattle.record.specs.declared.entry.BlockVector.{BlockVector}
use Rattle.record.specs.declared.shape.FieldShape.{FieldShape}
use Rattle.record.specs.Numbers.{unless}
use Rattle.record.specs.Numbers.Laws.{unless_zero, both_zero}
use Rattle.record.specs.Shape.{blocks_of, set_size}
use Rattle.record.specs.Shape.Laws.{entry_room}
use Rattle.record.specs.Entries.{entry_at, with_entry, set_of, Holds}
use Rattle.record.specs.Entries.Laws.{length_with_entry, entry_written}
use Rattle.record.specs.Bytes.{Bytes}
use Rattle.record.specs.Bytes.Laws.{bytes_take, bytes_drop, bytes_zeros, bytes_over}
use Rattle.record.specs.Entries.Again.{side_entry_holds, bytes_written, entry_same, entry_replaced, entries_commute}
use Rattle.record.specs.Update.{has_backward, has_forward, payload_number, backward_at, forward_at, renewed, backward_after, forward_after}
use Rattle.pooling.specs.Pool.{both_number, pooled_backward, pooled_forward}
use Rattle.pooling.specs.Pool.Laws.{length_pooled, bytes_pooled}
use Rattle.state.specs.Numbers as S
use Rattle.state.proofs.Laws.Ready.{entry_held}
use Rattle.machine.specs.Call.{Call, take, put, undo, redo, retime, pool, PutTyped, Typed, AllCalls, AllTyped}
use Rattle.machine.specs.Machine.{Step, Sets, Machine, opened, entry_of, stored_in, stored, sad_good, put_number, time_good, retime_number, renews, begun_anew, taken_sets, taken, pooled_sets, after_pool, recorded, put_step, after_put, Ends, none, some, ends_of, back, forth, backs, forths, past_run, future_run, undone, redone, retimed, step, run}
use Rattle.machine.proofs.Laws.Machine.{list_of, list_again, length_last, recorded_length}
use Rattle.machine.specs.Proof.Sound.{StepSound, All, nil, cons, SetsSound, Sound}

-- ---- one entry of the sets

module _ (s : FieldShape) (side block : ℕ) (within : block < blocks_of s) where
  pub stored_sound : (m : Sets) (v : BlockVector) → SetsSound s m → Holds v → SetsSound s (stored side block v m)
  unfolding stored stored_in
  stored_sound m v g h = go (eqb side 1)
    where
      go : (b : Bool) → SetsSound s (stored_in b block v m)
      go true =
          record {
            backward = length_with_entry m.backward block v (entry_room s block _ within (omega arith)) ∙ g.backward;
            forward = g.forward;
            backward_bytes = bytes_written m.backward block v g.backward_bytes h;
            forward_bytes = g.forward_bytes;
          }
      go false =
          record {
            backward = g.backward;
            forward = length_with_entry m.forward block v (entry_room s block _ within (omega arith)) ∙ g.forward;
            backward_bytes = g.backward_bytes;
            forward_bytes = bytes_written m.forward block v g.forward_bytes h;
          }

  pub entry_sound : (m : Sets) → SetsSound s m → Holds (entry_of side block m)
  unfolding entry_of
  entry_sound m g = side_entry_holds side block m.backward m.forward g.backward_bytes g.forward_bytes

  -- what was stored is read
  pub entry_stored : (m : Sets) (v : BlockVector) → SetsSound s m → Holds v → entry_of side block (stored side block v m) ≡ v
  unfolding entry_of stored stored_in set_of
  entry_stored m v g h = go (eqb side 1)
    where
      go : (b : Bool) → entry_at (cond b (stored_in b block v m).backward (stored_in b block v m).forward) block ≡ v
      go true = entry_written m.backward block v (entry_room s block _ within (omega arith)) h
      go false = entry_written m.forward block v (entry_room s block _ within (omega arith)) h

  -- another entry stored and then the one that stood there: every byte as it was
  pub stored_back : (m : Sets) (v w : BlockVector) → SetsSound s m → entry_of side block m ≡ w → stored side block w (stored side block v m) ≡ m
  unfolding entry_of stored stored_in set_of
  stored_back m v w g e = subst (λ (u : BlockVector). stored side block u (stored side block v m) ≡ m) e (go (eqb side 1))
    where
      same : (l : List ℕ) → length l ≡ set_size s → Bytes l → with_entry (with_entry l block v) block (entry_at l block) ≡ l
      same l q b = let r = entry_room s block (length l) within (omega arith) in entry_replaced l block v (entry_at l block) r ∙ entry_same l block b r

      go : (b : Bool) → stored_in b block (entry_at (cond b m.backward m.forward) block) (stored_in b block v m) ≡ m
      go true = λ i. record { backward = same m.backward g.backward g.backward_bytes i; forward = m.forward }
      go false = λ i. record { backward = m.backward; forward = same m.forward g.forward g.forward_bytes i }

-- two entries at different blocks, or on different sides, may be stored in either order: no proof here needs it, paper 02's request 13 will
pub stored_commute : (s : FieldShape) (side block side' block' : ℕ) (m : Sets) (v w : BlockVector) → block < blocks_of s → block' < blocks_of s → SetsSound s m
    → (eqb side 1 ≡ eqb side' 1 → block ≢ block') → stored side' block' w (stored side block v m) ≡ stored side block v (stored side' block' w m)
unfolding stored stored_in
stored_commute s side block side' block' m v w h k g ne = go (eqb side 1) (eqb side' 1) ne
  where
    swap : (l : List ℕ) → length l ≡ set_size s → block ≢ block' → with_entry (with_entry l block v) block' w ≡ with_entry (with_entry l block' w) block v
    swap l e d = entries_commute l block block' v w d (entry_room s block _ h (omega arith)) (entry_room s block' _ k (omega arith))

    go : (a b : Bool) → (a ≡ b → block ≢ block') → stored_in b block' w (stored_in a block v m) ≡ stored_in a block v (stored_in b block' w m)
    go true true d = λ i. record { backward = swap m.backward g.backward (d refl) i; forward = m.forward }
    go true false d = refl
    go false true d = refl
    go false false d = λ i. record { backward = m.backward; forward = swap m.forward g.forward (d refl) i }

-- ---- lists of sound steps

module _ {P : Step → Type 0} where
  pub all_append : (a b : List Step) → All P a → All P b → All P (a ++ b)
  all_append [] b nil g = g
  all_append (p ∷ a) b (cons h f) g = cons h (all_append a b f g)

  pub all_front : (a b : List Step) → All P (a ++ b) → All P a
  all_front [] b h = nil
  all_front (p ∷ a) b (cons h f) = cons h (all_front a b f)

  pub all_last : (a : List Step) (p : Step) → All P (a ++ (p ∷ [])) → P p
  all_last [] p (cons h f) = h
  all_last (x ∷ a) p (cons h f) = all_last a p f

  pub all_rest : (a : List Step) → All P a → All P (drop 1 a)
  all_rest [] h = nil
  all_rest (p ∷ a) (cons h f) = f

  pub all_drop : (k : ℕ) (a : List Step) → All P a → All P (drop k a)
  all_drop zero a h = h
  all_drop (suc k) [] h = nil
  all_drop (suc k) (p ∷ a) (cons h f) = all_drop k a f

  pub all_head : (p : Step) (a : List Step) → All P (p ∷ a) → P p
  all_head p a (cons h f) = h

-- a sound state's last step of past and first of future
module _ (D : ℕ) (s : FieldShape) (m : Machine) (g : Sound D s m) where
  pub last_sound : (ps : List Step) (p : Step) → ps ++ (p ∷ []) ≡ m.past → StepSound s p
  last_sound ps p e = all_last ps p (subst (All (StepSound s)) (sym e) g.past)

  pub next_sound : (p : Step) (ps : List Step) → p ∷ ps ≡ m.future → StepSound s p
  next_sound p ps e = all_head p ps (subst (All (StepSound s)) (sym e) g.future)

-- ---- open

pub opened_sound : (D : ℕ) (s : FieldShape) (t : ℤ) → time_good t ≡ true → Sound D s (opened s t)
unfolding opened
opened_sound D s t h =
    record {
      sets =
          record {
            backward = length-replicate (set_size s) 0;
            forward = length-replicate (set_size s) 0;
            backward_bytes = bytes_zeros (set_size s);
            forward_bytes = bytes_zeros (set_size s);
          };
      time = h;
      count = omega arith;
      past = nil;
      future = nil;
    }

-- ---- take, pool and put: what is renewed, and what is accepted

module _ (s : FieldShape) where
  after_length : (b : Bool) (p : List ℕ) (at : ℕ) (l : List ℕ) → length l ≡ set_size s → length (cond b (renewed s p at l) l) ≡ set_size s
  unfolding renewed
  after_length true p at l e =
      length_over (front (set_size s) (drop at p)) l (simp length-take (omega arith)) ∙ e
  after_length false p at l e = e

  after_bytes : (b : Bool) (p : List ℕ) (at : ℕ) (l : List ℕ) → Bytes p → Bytes l → Bytes (cond b (renewed s p at l) l)
  unfolding renewed
  after_bytes true p at l h g = bytes_over (front (set_size s) (drop at p)) l (bytes_take (set_size s) (drop at p) (bytes_drop at p h)) g
  after_bytes false p at l h g = g

  -- what an accepted put says of its arguments: its side and block are there, and 8 bytes hold its entry
  pub record PutGood (side block : ℕ) (v : BlockVector) (gesture : ℕ) : Type 0 where
    pub side_is : (side ≡ 1) ⊎ (side ≡ 2)
    pub within : block < blocks_of s
    pub holds : Holds v
    pub gesture_fits : gesture < 4294967296

  pub put_good : (side block : ℕ) (v : BlockVector) (gesture : ℕ) → PutTyped side block v gesture → put_number s side block v ≡ 0 → PutGood side block v gesture
  unfolding put_number sad_good S.sad_good
  put_good side block v gesture t e =
      let f = both_zero _ _ e in
      let place = unless_zero _ 8 (λ q. omega arith) f.0 in
      record {
        side_is = one_of side 1 2 (and_left _ (ltb block (blocks_of s)) place);
        within = ltb-true block (blocks_of s) (and_right (eqb side 1 || eqb side 2) _ place);
        holds = entry_held v t.entry (unless_zero _ 7 (λ q. omega arith) f.1);
        gesture_fits = t.gesture_fits;
      }

module _ (D : ℕ) (s : FieldShape) where
  pub anew_sound : (sets : Sets) (m : Machine) → SetsSound s sets → Sound D s m → Sound D s (begun_anew sets m)
  unfolding begun_anew
  anew_sound sets m k g = record { sets = k; time = g.time; count = omega arith; past = nil; future = nil }

  pub taken_sets_sound : (payload : List ℕ) (m : Sets) → Bytes payload → SetsSound s m → SetsSound s (taken_sets s payload m)
  unfolding taken_sets backward_after forward_after
  taken_sets_sound payload m h g =
      let n : ℕ = payload_number s payload in
      let back : Bool = (eqb n 0 || eqb n 6) && has_backward s in
      let fore : Bool = eqb n 0 && has_forward s in
      record {
        backward = after_length s back payload backward_at m.backward g.backward;
        forward = after_length s fore payload (forward_at s) m.forward g.forward;
        backward_bytes = after_bytes s back payload backward_at m.backward h g.backward_bytes;
        forward_bytes = after_bytes s fore payload (forward_at s) m.forward h g.forward_bytes;
      }

  taken_sound : (payload : List ℕ) (m : Machine) → Bytes payload → Sound D s m → Sound D s (taken s payload m)
  unfolding taken
  taken_sound payload m h g = anew_sound (taken_sets s payload m.sets) m (taken_sets_sound payload m.sets h g.sets) g

  pub pooled_sets_sound : (p q : List ℕ) (m : Sets) → Bytes p → Bytes q → SetsSound s m → SetsSound s (pooled_sets s p q m)
  unfolding pooled_sets pooled_backward pooled_forward
  pooled_sets_sound p q m hp hq g =
      record {
        backward = length_pooled s (has_backward s) backward_at p q m.backward (omega (arith, g.backward)) ∙ g.backward;
        forward = length_pooled s (has_forward s) (forward_at s) p q m.forward (omega (arith, g.forward)) ∙ g.forward;
        backward_bytes = bytes_pooled s (has_backward s) backward_at p q m.backward hp hq g.backward_bytes;
        forward_bytes = bytes_pooled s (has_forward s) (forward_at s) p q m.forward hp hq g.forward_bytes;
      }

  pool_sound : (p q : List ℕ) (m : Machine) → Bytes p → Bytes q → Sound D s m → Sound D s (after_pool s p q m)
  unfolding after_pool
  pool_sound p q m hp hq g = anew_sound (pooled_sets s p q m.sets) m (pooled_sets_sound p q m.sets hp hq g.sets) g

  recorded_sound : (past : List Step) (p : Step) → All (StepSound s) past → StepSound s p → All (StepSound s) (recorded D past p)
  unfolding recorded
  recorded_sound past p h g =
      all_append (cond (eqb (length past) D) (drop 1 past) past) (p ∷ [])
      (cond_elim (All (StepSound s)) (eqb (length past) D) (drop 1 past) past (λ e. all_rest past h) (λ e. h))
      (cons g nil)

  pub put_sound : (side block : ℕ) (v : BlockVector) (gesture : ℕ) (m : Machine) → 1 ≤ D → PutGood s side block v gesture → Sound D s m → Sound D s (after_put D side block v gesture m)
  unfolding after_put put_step
  put_sound side block v gesture m h p g =
      let c = g.count in
      record {
        sets = stored_sound s side block p.within m.sets v g.sets p.holds;
        time = g.time;
        count = let r = recorded_length D m.past (put_step side block v gesture m.sets) h (omega arith) in omega arith;
        past =
            recorded_sound m.past (put_step side block v gesture m.sets) g.past
            (record { side = p.side_is; block = p.within; old = entry_sound s side block p.within m.sets g.sets; new = p.holds; gesture = p.gesture_fits });
        future = nil;
      }

  -- ---- undo and redo

  -- 8 bytes hold either entry of a step, so that it doesn't matter here which of the two is stored: that is said by `Linked` and in Built
  pub back_sound : (m : Machine) (e : Ends) → list_of e ≡ m.past → Sound D s m → Sound D s (back e m)
  unfolding back list_of
  back_sound m none e g = g
  back_sound m (some ps p) e g =
      let h : StepSound s p = last_sound D s m g ps p e in
      let n = length_last m.past ps p e in
      let c = g.count in
      record {
        sets = stored_sound s p.side p.block h.block m.sets _ g.sets (search);
        time = g.time;
        count = omega arith;
        past = all_front ps (p ∷ []) (subst (All (StepSound s)) (sym e) g.past);
        future = cons h g.future;
      }

  pub forth_sound : (m : Machine) (l : List Step) → l ≡ m.future → Sound D s m → Sound D s (forth l m)
  unfolding forth
  forth_sound m [] e g = g
  forth_sound m (p ∷ ps) e g =
      let h : StepSound s p = next_sound D s m g p ps e in
      let n : length m.future ≡ suc (length ps) = ap length (sym e) in
      let c = g.count in
      record {
        sets = stored_sound s p.side p.block h.block m.sets _ g.sets (search);
        time = g.time;
        count = simp length-append (omega arith);
        past = all_append m.past (p ∷ []) g.past (cons h nil);
        future = all_rest (p ∷ ps) (subst (All (StepSound s)) (sym e) g.future);
      }

  -- any number of steps, so those of a run too
  pub backs_sound : (k : ℕ) (m : Machine) → Sound D s m → Sound D s (backs k m)
  unfolding backs
  backs_sound zero m g = g
  backs_sound (suc k) m g = backs_sound k (back (ends_of m.past) m) (back_sound m (ends_of m.past) (list_again m.past) g)

  pub forths_sound : (k : ℕ) (m : Machine) → Sound D s m → Sound D s (forths k m)
  unfolding forths
  forths_sound zero m g = g
  forths_sound (suc k) m g = forths_sound k (forth m.future m) (forth_sound m m.future refl g)

  undone_sound : (l : List Step) (m : Machine) → Sound D s m → Sound D s (undone l m).next
  unfolding undone
  undone_sound [] m g = g
  undone_sound (p ∷ ps) m g = backs_sound (past_run m) m g

  redone_sound : (l : List Step) (m : Machine) → Sound D s m → Sound D s (redone l m).next
  unfolding redone
  redone_sound [] m g = g
  redone_sound (p ∷ ps) m g = forths_sound (future_run m) m g

  -- ---- every call, and every list of calls

  retime_good : (t : ℤ) → eqb (retime_number t) 0 ≡ true → time_good t ≡ true
  unfolding retime_number
  retime_good t e = unless_zero (time_good t) 7 (λ q. omega arith) (eqb-true (unless (time_good t) 7) 0 e)

  retimed_sound : (t : ℤ) (m : Machine) → time_good t ≡ true → Sound D s m → Sound D s (retimed t m)
  unfolding retimed
  retimed_sound t m e g = record { sets = g.sets; time = e; count = g.count; past = g.past; future = g.future }

  pub step_sound : (x : Call) (m : Machine) → 1 ≤ D → Typed x → Sound D s m → Sound D s (step D s x m).next
  unfolding step Typed
  step_sound (take payload) m h t g = cond_elim (Sound D s) (renews s (payload_number s payload)) (taken s payload m) m (λ e. taken_sound payload m t g) (λ e. g)
  step_sound (put side block v gesture) m h t g =
      cond_elim (Sound D s) (eqb (put_number s side block v) 0) (after_put D side block v gesture m) m
      (λ e. put_sound side block v gesture m h (put_good s side block v gesture t (eqb-true (put_number s side block v) 0 e)) g) (λ e. g)
  step_sound undo m h t g = undone_sound m.past m g
  step_sound redo m h t g = redone_sound m.future m g
  step_sound (retime t) m h k g = cond_elim (Sound D s) (eqb (retime_number t) 0) (retimed t m) m (λ e. retimed_sound t m (retime_good t e) g) (λ e. g)
  step_sound (pool p q) m h t g = cond_elim (Sound D s) (eqb (both_number s p q) 0) (after_pool s p q m) m (λ e. pool_sound p q m t.0 t.1 g) (λ e. g)

  pub run_sound : (xs : List Call) (m : Machine) → 1 ≤ D → AllTyped xs → Sound D s m → Sound D s (run D s xs m).end
  unfolding run AllCalls
  run_sound [] m h t g = g
  run_sound (x ∷ xs) m h t g = run_sound xs (step D s x m).next h t.1 (step_sound x m h t.0 g)
