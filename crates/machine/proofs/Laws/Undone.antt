-- As many undos as past has runs, or fewer, and then as many redos: all are accepted and leave the machine as it was.
use Rattle.std.specs.Prelude.{◌≡◌, true, false, cond, ℤ, drop, replicate}
use Rattle.std.proofs.Math.Path.{refl, ap, subst}
use Rattle.std.proofs.Common.{sym, ◌∙◌, add-one, eqb-true}
use Rattle.std.proofs.Math.Bool.{Bool}
use mathlib.Core.List.{List, [], ◌∷◌, ◌++◌, append_assoc, reverse, reverse-cons, reverse-append}
use Prim.Native.Nat.{ℕ, zero, suc, ◌+◌, ◌≤◌, ◌<◌}
use native.Mathlib.Omega.{arith}
use Rattle.std.proofs.Math.Dec.{eqb}
use Rattle.std.proofs.Math.ListN.{length, length-map}
use Rattle.std.proofs.lemmas.List.{replicate-append-replicate}
use Rattle.arith.specs.Booleans.{cond_elim}
use Rattle.record.specs.declared.entry.BlockVector.{BlockVector}
use Rattle.record.specs.declared.shape.FieldShape.{FieldShape}
use Rattle.record.specs.Entries.{Holds}
use Rattle.record.specs.Shape.{blocks_of}
use Rattle.record.specs.Update.{payload_number}
use Rattle.pooling.specs.Pool.{both_number}
use Rattle.runs.proofs.Laws.Runs.{runs_least, runs_most, runs_reverse}
use Rattle.machine.specs.Call.{Call, take, put, undo, redo, retime, pool, Typed, AllCalls, AllTyped}
use Rattle.machine.specs.Machine.{Step, Sets, Machine, Reply, reply, opened, entry_of, put_number, time_good, retime_number, renews, begun_anew, taken_sets, taken, pooled_sets, after_pool, recorded, put_step, after_put, Ends, none, some, ends_of, back, forth, backs, forths, gestures_of, past_run, future_run, undone, redone, retimed, step, run}
use Rattle.machine.proofs.Laws.Machine.{list_of, list_again, length_last}
use Rattle.machine.specs.Runs.{line_of, Parted}
use Rattle.machine.proofs.Laws.Runs.{past_run_some, past_run_most, future_run_most, past_run_moved, opened_parted, step_parted, run_parted}
use Rattle.machine.specs.Proof.Sound.{StepSound, SetsSound, Sound}
use Rattle.machine.proofs.Laws.Sound.{entry_stored, stored_back, last_sound, next_sound, PutGood, put_good, opened_sound, back_sound, forth_sound, step_sound, run_sound}
use Rattle.runs.specs.Runs.{runs_of}
use Rattle.machine.specs.Whole.{undos_of, undos_redos}
use Rattle.machine.specs.Proof.Undone.{earlier, later, Behind, Ahead, Linked}

-- ---- the steps of every state fit its sets

behind_front : (a b : List Step) (m : Sets) → Behind (a ++ b) m → Behind a m
unfolding Behind
behind_front [] b m h = tt
behind_front (p ∷ a) b m h = (h.0, behind_front a b (earlier p m) h.1)

pub opened_linked : (s : FieldShape) (t : ℤ) → Linked (opened s t)
unfolding opened Behind Ahead
opened_linked s t = record { behind = tt; ahead = tt }

module _ (D : ℕ) (s : FieldShape) where
  -- what the last of past says
  behind_last : (m : Machine) (ps : List Step) (p : Step) → ps ++ (p ∷ []) ≡ m.past → Linked m
      → (entry_of p.side p.block m.sets ≡ p.new) × Behind (reverse ps) (earlier p m.sets)
  unfolding Behind
  behind_last m ps p e l = subst (λ (q : List Step). Behind q m.sets) (ap reverse (sym e) ∙ reverse-append ps (p ∷ [])) l.behind

  pub back_linked : (m : Machine) (e : Ends) → list_of e ≡ m.past → Sound D s m → Linked m → Linked (back e m)
  unfolding back list_of Ahead earlier later
  back_linked m none e g l = l
  back_linked m (some ps p) e g l =
      let h : StepSound s p = last_sound D s m g ps p e in
      let b = behind_last m ps p e l in
      record {
        behind = b.1;
        ahead = (
          entry_stored s p.side p.block h.block m.sets p.old g.sets h.old,
          subst (Ahead m.future) (sym (stored_back s p.side p.block h.block m.sets p.old p.new g.sets b.0)) l.ahead,
        );
      }

  -- one more step, whose old entry is the present one
  behind_more : (kept : List Step) (p : Step) (m : Sets) → p.block < blocks_of s → Holds p.new → SetsSound s m → entry_of p.side p.block m ≡ p.old
      → Behind (reverse kept) m → Behind (reverse (kept ++ (p ∷ []))) (later p m)
  unfolding Behind earlier later
  behind_more kept p m w h g e b =
      subst (λ (q : List Step). Behind q (later p m)) (sym (reverse-append kept (p ∷ []))) (
        entry_stored s p.side p.block w m p.new g h,
        subst (Behind (reverse kept)) (sym (stored_back s p.side p.block w m p.new p.old g e)) b,
      )

  pub forth_linked : (m : Machine) (q : List Step) → q ≡ m.future → Sound D s m → Linked m → Linked (forth q m)
  unfolding forth Ahead later
  forth_linked m [] e g l = l
  forth_linked m (p ∷ ps) e g l =
      let h : StepSound s p = next_sound D s m g p ps e in
      let a : (entry_of p.side p.block m.sets ≡ p.old) × Ahead ps (later p m.sets) = subst (λ (q : List Step). Ahead q m.sets) (sym e) l.ahead in
      record {
        behind = behind_more m.past p m.sets h.block h.new g.sets a.0 l.behind;
        ahead = a.1;
      }

  pub backs_linked : (k : ℕ) (m : Machine) → Sound D s m → Linked m → Linked (backs k m)
  unfolding backs
  backs_linked zero m g l = l
  backs_linked (suc k) m g l =
      let e = list_again m.past in
      backs_linked k (back (ends_of m.past) m) (back_sound D s m (ends_of m.past) e g) (back_linked m (ends_of m.past) e g l)

  pub forths_linked : (k : ℕ) (m : Machine) → Sound D s m → Linked m → Linked (forths k m)
  unfolding forths
  forths_linked zero m g l = l
  forths_linked (suc k) m g l = forths_linked k (forth m.future m) (forth_sound D s m m.future refl g) (forth_linked m m.future refl g l)

  undone_linked : (q : List Step) (m : Machine) → Sound D s m → Linked m → Linked (undone q m).next
  unfolding undone
  undone_linked [] m g l = l
  undone_linked (p ∷ ps) m g l = backs_linked (past_run m) m g l

  redone_linked : (q : List Step) (m : Machine) → Sound D s m → Linked m → Linked (redone q m).next
  unfolding redone
  redone_linked [] m g l = l
  redone_linked (p ∷ ps) m g l = forths_linked (future_run m) m g l

  -- the steps that stay when one more is recorded
  kept_behind : (past : List Step) (m : Sets) (b : Bool) → Behind (reverse past) m → Behind (reverse (cond b (drop 1 past) past)) m
  kept_behind past m false f = f
  kept_behind [] m true f = f
  kept_behind (x ∷ ps) m true f = behind_front (reverse ps) (x ∷ []) m (subst (λ (q : List Step). Behind q m) (reverse-cons x ps) f)

  pub put_linked : (side block : ℕ) (v : BlockVector) (gesture : ℕ) (m : Machine) → PutGood s side block v gesture → Sound D s m → Linked m → Linked (after_put D side block v gesture m)
  unfolding after_put put_step recorded Ahead later
  put_linked side block v gesture m p g l =
      let full : Bool = eqb (length m.past) D in
      record {
        behind =
            behind_more (cond full (drop 1 m.past) m.past) (put_step side block v gesture m.sets) m.sets p.within p.holds g.sets refl
            (kept_behind m.past m.sets full l.behind);
        ahead = tt;
      }

  pub anew_linked : (sets : Sets) (m : Machine) → Linked (begun_anew sets m)
  unfolding begun_anew Behind Ahead
  anew_linked sets m = record { behind = tt; ahead = tt }

  retimed_linked : (t : ℤ) (m : Machine) → Linked m → Linked (retimed t m)
  unfolding retimed
  retimed_linked t m l = record { behind = l.behind; ahead = l.ahead }

  pub step_linked : (x : Call) (m : Machine) → Typed x → Sound D s m → Linked m → Linked (step D s x m).next
  unfolding step Typed taken after_pool
  step_linked (take payload) m t g l = cond_elim Linked (renews s (payload_number s payload)) (taken s payload m) m (λ e. anew_linked (taken_sets s payload m.sets) m) (λ e. l)
  step_linked (put side block v gesture) m t g l =
      cond_elim Linked (eqb (put_number s side block v) 0) (after_put D side block v gesture m) m
      (λ e. put_linked side block v gesture m (put_good s side block v gesture t (eqb-true (put_number s side block v) 0 e)) g l) (λ e. l)
  step_linked undo m t g l = undone_linked m.past m g l
  step_linked redo m t g l = redone_linked m.future m g l
  step_linked (retime t) m k g l = cond_elim Linked (eqb (retime_number t) 0) (retimed t m) m (λ e. retimed_linked t m l) (λ e. l)
  step_linked (pool p q) m t g l = cond_elim Linked (eqb (both_number s p q) 0) (after_pool s p q m) m (λ e. anew_linked (pooled_sets s p q m.sets) m) (λ e. l)

  pub run_linked : (xs : List Call) (m : Machine) → 1 ≤ D → AllTyped xs → Sound D s m → Linked m → Linked (run D s xs m).end
  unfolding run AllCalls
  run_linked [] m h t g l = l
  run_linked (x ∷ xs) m h t g l = run_linked xs (step D s x m).next h t.1 (step_sound D s x m h t.0 g) (step_linked x m t.0 g l)

  -- ---- undos and then as many redos

  pub run_append_end : (xs ys : List Call) (m : Machine) → (run D s (xs ++ ys) m).end ≡ (run D s ys (run D s xs m).end).end
  unfolding run
  run_append_end [] ys m = refl
  run_append_end (x ∷ xs) ys m = run_append_end xs ys (step D s x m).next

  pub run_append_numbers : (xs ys : List Call) (m : Machine)
      → (run D s (xs ++ ys) m).numbers ≡ (run D s xs m).numbers ++ (run D s ys (run D s xs m).end).numbers
  unfolding run
  run_append_numbers [] ys m = refl
  run_append_numbers (x ∷ xs) ys m = ap (λ (l : List ℕ). (step D s x m).number ∷ l) (run_append_numbers xs ys (step D s x m).next)

  -- the last of several alike
  replicate_last : {A : Type 0} (k : ℕ) (x : A) → replicate (suc k) x ≡ replicate k x ++ (x ∷ [])
  replicate_last k x = ap (λ (n : ℕ). replicate n x) (sym (add-one k)) ∙ sym (replicate-append-replicate k 1 x)

  -- ---- steps taken back and brought back

  -- the last of several steps brought back
  forths_last : (k : ℕ) (m : Machine) → forths (suc k) m ≡ forth (forths k m).future (forths k m)
  unfolding forths
  forths_last zero m = refl
  forths_last (suc k) m = forths_last k (forth m.future m)

  -- one
  back_forth : (m : Machine) (e : Ends) → list_of e ≡ m.past → 1 ≤ length m.past → Sound D s m → Linked m → forth (back e m).future (back e m) ≡ m
  unfolding back forth list_of
  back_forth m none e h g l = let n : 0 ≡ length m.past = ap length e in let z : ⊥ = omega arith in absurd z
  back_forth m (some ps p) e h g l =
      let k : StepSound s p = last_sound D s m g ps p e in
      λ i. record {
        sets = stored_back s p.side p.block k.block m.sets p.old p.new g.sets (behind_last m ps p e l).0 i;
        time = m.time;
        past = e i;
        future = m.future;
      }

  back_shorter : (m : Machine) (e : Ends) → list_of e ≡ m.past → length m.past ≤ suc (length (back e m).past)
  unfolding back list_of
  back_shorter m none e = omega arith
  back_shorter m (some ps p) e = let n = length_last m.past ps p e in omega arith

  -- several: as many steps back and forth leave the machine as it was
  pub backs_forths : (k : ℕ) (m : Machine) → k ≤ length m.past → Sound D s m → Linked m → forths k (backs k m) ≡ m
  unfolding backs forths
  backs_forths zero m h g l = refl
  backs_forths (suc k) m h g l =
      let e = list_again m.past in
      let m' : Machine = back (ends_of m.past) m in
      let n = back_shorter m (ends_of m.past) e in
      forths_last k (backs k m')
      ∙ ap (λ (t : Machine). forth t.future t) (backs_forths k m' (omega arith) (back_sound D s m (ends_of m.past) e g) (back_linked m (ends_of m.past) e g l))
      ∙ back_forth m (ends_of m.past) e (omega arith) g l

  -- ---- an undo that is accepted, and the redo that follows

  redone_some : (q : List Step) (m : Machine) → q ≡ m.future → 1 ≤ length m.future → redone q m ≡ reply 0 (forths (future_run m) m)
  unfolding redone
  redone_some [] m e h = let n : 0 ≡ length m.future = ap length e in let z : ⊥ = omega arith in absurd z
  redone_some (p ∷ ps) m e h = refl

  module _ (m : Machine) (h : 1 ≤ length m.past) (w : Parted m) where
    -- the run that was taken back is the one that is brought back
    same_run : future_run (backs (past_run m) m) ≡ past_run m
    unfolding future_run past_run line_of
    same_run = (past_run_moved m h w).run

    again_some : 1 ≤ length (backs (past_run m) m).future
    again_some =
        let a = same_run in
        let b = past_run_some m h in
        let c = future_run_most (backs (past_run m) m) in
        omega arith

    -- past has one run less
    one_less : suc (undos_of (backs (past_run m) m)) ≡ undos_of m
    unfolding undos_of line_of
    one_less =
        ap suc (sym (runs_reverse (gestures_of (backs (past_run m) m).past)))
        ∙ (past_run_moved m h w).fewer
        ∙ runs_reverse (gestures_of m.past)

  record Turned (m : Machine) (r : Reply) : Type 0 where
    undo_number : r.number ≡ 0
    redo_number : (redone r.next.future r.next).number ≡ 0
    back : (redone r.next.future r.next).next ≡ m

  turned : (m : Machine) (q : List Step) → q ≡ m.past → 1 ≤ length m.past → Sound D s m → Linked m → Parted m → Turned m (undone q m)
  unfolding undone
  turned m [] e h g l w = let n : 0 ≡ length m.past = ap length e in let z : ⊥ = omega arith in absurd z
  turned m (p ∷ ps) e h g l w =
      let m' : Machine = backs (past_run m) m in
      let r : redone m'.future m' ≡ reply 0 (forths (future_run m') m') = redone_some m'.future m' refl (again_some m h w) in
      record {
        undo_number = refl;
        redo_number = ap (λ (t : Reply). t.number) r;
        back =
            ap (λ (t : Reply). t.next) r
            ∙ ap (λ (k : ℕ). forths k m') (same_run m h w)
            ∙ backs_forths (past_run m) m (past_run_most m) g l;
      }

  -- one more undo before, and one more redo behind
  around : (xs : List Call) (m m' : Machine) (zs : List ℕ) → (step D s undo m).next ≡ m' → (step D s undo m).number ≡ 0
      → run D s xs m' ≡ record { numbers = zs; end = m' } → (step D s redo m').number ≡ 0 → (step D s redo m').next ≡ m
      → run D s (undo ∷ (xs ++ (redo ∷ []))) m ≡ record { numbers = 0 ∷ (zs ++ (0 ∷ [])); end = m }
  unfolding run
  around xs m m' zs u n r k b =
      λ i. record { numbers = n i ∷ numbers i; end = end i }
    where
      numbers : (run D s (xs ++ (redo ∷ [])) (step D s undo m).next).numbers ≡ zs ++ (0 ∷ [])
      numbers =
          ap (λ (t : Machine). (run D s (xs ++ (redo ∷ [])) t).numbers) u
          ∙ run_append_numbers xs (redo ∷ []) m'
          ∙ (λ i. (r i).numbers ++ ((step D s redo (r i).end).number ∷ []))
          ∙ ap (λ (t : ℕ). zs ++ (t ∷ [])) k

      end : (run D s (xs ++ (redo ∷ [])) (step D s undo m).next).end ≡ m
      end =
          ap (λ (t : Machine). (run D s (xs ++ (redo ∷ [])) t).end) u
          ∙ run_append_end xs (redo ∷ []) m'
          ∙ (λ i. (step D s redo (r i).end).next)
          ∙ b

  list_around : (k : ℕ) → undos_redos (suc k) ≡ undo ∷ (undos_redos k ++ (redo ∷ []))
  unfolding undos_redos
  list_around k =
      ap (λ (l : List Call). undo ∷ (replicate k undo ++ l)) (replicate_last k redo)
      ∙ ap (λ (l : List Call). undo ∷ l) (sym (append_assoc (replicate k undo) (replicate k redo) (redo ∷ [])))

  zeros_around : (k : ℕ) → ◌≡◌ {A = List ℕ} (0 ∷ (replicate (k + k) 0 ++ (0 ∷ []))) (replicate (suc k + suc k) 0)
  zeros_around k =
      let e : suc (suc (k + k)) ≡ suc k + suc k = omega arith in
      ap (λ (l : List ℕ). 0 ∷ l) (sym (replicate_last (k + k) 0)) ∙ ap (λ (n : ℕ). replicate n 0) e

  -- where there is a run there is a step
  runs_some : (m : Machine) → 1 ≤ undos_of m → 1 ≤ length m.past
  unfolding undos_of
  runs_some m h = omega (arith, runs_most (gestures_of m.past), length-map m.past (λ (p : Step). p.gesture))

  -- as many undos as past has runs leave no past step
  none_left : (m : Machine) (l : List Step) → l ≡ m.past → undos_of m ≡ 0 → l ≡ []
  unfolding undos_of
  none_left m [] e h = refl
  none_left m (p ∷ l) e h =
      let n : runs_of (gestures_of m.past) ≡ runs_of (gestures_of (p ∷ l)) = ap (λ (q : List Step). runs_of (gestures_of q)) (sym e) in
      let z : ⊥ = omega (arith, runs_least p.gesture (gestures_of l)) in
      absurd z

  undone_less : (m : Machine) (q : List Step) → q ≡ m.past → 1 ≤ length m.past → Parted m → suc (undos_of (undone q m).next) ≡ undos_of m
  unfolding undone
  undone_less m [] e h w = let n : 0 ≡ length m.past = ap length e in let z : ⊥ = omega arith in absurd z
  undone_less m (p ∷ ps) e h w = one_less m h w

  pub undos_empty : (k : ℕ) (m : Machine) → undos_of m ≡ k → Parted m → (run D s (replicate k undo) m).end.past ≡ []
  unfolding run step
  undos_empty zero m e w = none_left m m.past refl e
  undos_empty (suc k) m e w =
      let n = undone_less m m.past refl (runs_some m (omega arith)) w in
      undos_empty k (undone m.past m).next (omega arith) (step_parted D s undo m w)

  pub undos_redos_lem : (k : ℕ) (m : Machine) → 1 ≤ D → k ≤ undos_of m → Sound D s m → Linked m → Parted m
      → run D s (undos_redos k) m ≡ record { numbers = replicate (k + k) 0; end = m }
  unfolding run undos_redos step Typed
  undos_redos_lem zero m h q g l w = refl
  undos_redos_lem (suc k) m h q g l w =
      let t = turned m m.past refl (runs_some m (omega arith)) g l w in
      let f = undone_less m m.past refl (runs_some m (omega arith)) w in
      let m' : Machine = (undone m.past m).next in
      ap (λ (xs : List Call). run D s xs m) (list_around k)
      ∙ around (undos_redos k) m m' (replicate (k + k) 0) refl t.undo_number
      (undos_redos_lem k m' h (omega arith) (step_sound D s undo m h tt g) (step_linked undo m tt g l) (step_parted D s undo m w)) t.redo_number t.back
      ∙ ap (λ (zs : List ℕ). record { numbers = zs; end = m }) (zeros_around k)

  -- as many as past has runs
  pub all_undone : (m : Machine) → 1 ≤ D → Sound D s m → Linked m → Parted m
      → run D s (undos_redos (undos_of m)) m ≡ record { numbers = replicate (undos_of m + undos_of m) 0; end = m }
  all_undone m h g l w = undos_redos_lem (undos_of m) m h (omega arith) g l w

  -- after every list that follows an accepted open
  pub opened_undone : (t : ℤ) (xs : List Call) → 1 ≤ D → time_good t ≡ true → AllTyped xs
      → let m : Machine = (run D s xs (opened s t)).end in
      run D s (undos_redos (undos_of m)) m ≡ record { numbers = replicate (undos_of m + undos_of m) 0; end = m }
  opened_undone t xs h e a =
      let g = opened_sound D s t e in
      all_undone (run D s xs (opened s t)).end h (run_sound D s xs (opened s t) h a g) (run_linked xs (opened s t) h a g (opened_linked s t))
      (run_parted D s xs (opened s t) (opened_parted s t))
