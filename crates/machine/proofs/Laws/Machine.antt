-- Lists seen from their end, the order of a run's steps and the recorded step; an accepted pool leaves no step; a refused call leaves the machine as it was but for a take by 6, and only the numbers 4 to 10 arise.
use Rattle.std.specs.Prelude.{◌≡◌, Bool, cond, ◌&&◌, ◌||◌, ℤ, length, drop}
use Rattle.std.proofs.Math.Path.{refl, ap}
use Rattle.std.proofs.Common.{sym, ◌∙◌, ⊎_elim, arith, eqb-true, eq-eqb, ne_eqb, length-drop, length-append}
use Rattle.std.proofs.Math.Logic.{inl, inr}
use Rattle.std.proofs.Math.Bool.{true, false, true≢false}
use Rattle.std.proofs.lemmas.Bool.{false≢true, eqb-false}
use mathlib.Core.List.{List, [], ◌∷◌, ◌++◌, append_assoc}
use Prim.Native.Nat.{ℕ, zero, suc, ◌+◌, ◌-◌, ◌≤◌, ◌<◌, min}
use Rattle.std.proofs.Math.Decide.{dec_lt}
use Rattle.std.proofs.Math.Dec.{eqb, ltb}
use Rattle.arith.specs.Booleans.{or_either, cond_true, cond_false}
use Rattle.record.specs.declared.entry.BlockVector.{BlockVector}
use Rattle.record.specs.declared.shape.FieldShape.{FieldShape}
use Rattle.record.specs.Numbers.{first, unless}
use Rattle.record.specs.Shape.{blocks_of}
use Rattle.record.specs.Update.{has_backward, head_good, backward_good, forward_good, payload_number}
use Rattle.pooling.specs.Pool.{both_number}
use Rattle.machine.specs.Call.{Call, take, put, undo, redo, retime, pool, numbers_of, is_one_of, arises, Answers, Answered}
use Rattle.machine.specs.Machine.{Step, Sets, Machine, stored, Ends, none, some, before, ends_of, back, forth, backs, forths, past_run, future_run, undone, redone, sad_good, put_number, time_good, retime_number, renews, begun_anew, after_pool, recorded, put_step, step, run}

or_left_no : (a b : Bool) → (a || b) ≡ false → a ≡ false
or_left_no true b e = e
or_left_no false b e = refl

-- ---- a list seen from its end

-- the list again
unfoldable pub list_of : Ends → List Step
list_of none = []
list_of (some ps p) = ps ++ (p ∷ [])

pub list_again : (l : List Step) → list_of (ends_of l) ≡ l
unfolding list_of ends_of before
list_again [] = refl
list_again (x ∷ l) = one (ends_of l) ∙ ap (λ (t : List Step). x ∷ t) (list_again l)
  where
    one : (e : Ends) → list_of (before x e) ≡ x ∷ list_of e
    one none = refl
    one (some ps p) = refl

-- what comes before its last is one shorter
pub length_last : (l ps : List Step) (p : Step) → ps ++ (p ∷ []) ≡ l → length l ≡ length ps + 1
length_last l ps p e = ap length (sym e) ∙ length-append ps (p ∷ [])

-- ---- steps of a run, one by one

-- of two steps the later is taken back first, so that of two of one block the earlier one's old entry stays
pub latest_first : (m : Machine) (p q : Step)
    → (backs 2 (record { sets = m.sets; time = m.time; past = p ∷ q ∷ []; future = m.future })).sets
    ≡ stored p.side p.block p.old (stored q.side q.block q.old m.sets)
unfolding backs back ends_of before
latest_first m p q = refl

-- and the earlier is brought back first
pub next_first : (m : Machine) (l : List Step) (p q : Step)
    → (forths 2 (record { sets = m.sets; time = m.time; past = m.past; future = p ∷ q ∷ l })).sets
    ≡ stored q.side q.block q.new (stored p.side p.block p.new m.sets)
unfolding forths forth
next_first m l p q = refl

-- ---- all steps stay, in their order: k of them change sides

pub lists_back : (m : Machine) (e : Ends) → list_of e ≡ m.past → ((back e m).past ++ (back e m).future ≡ m.past ++ m.future) × (length (back e m).past ≡ length m.past - 1)
unfolding back list_of
lists_back m none e = (refl, (let n : 0 ≡ length m.past = ap length e in omega arith))
lists_back m (some ps p) e = (
  sym (append_assoc ps (p ∷ []) m.future) ∙ ap (λ (l : List Step). l ++ m.future) e,
  (let n = length_last m.past ps p e in omega arith),
)

pub lists_forth : (m : Machine) (q : List Step) → q ≡ m.future → ((forth q m).past ++ (forth q m).future ≡ m.past ++ m.future) × (length (forth q m).future ≡ length m.future - 1)
unfolding forth
lists_forth m [] e = (refl, (let n : 0 ≡ length m.future = ap length e in omega arith))
lists_forth m (p ∷ ps) e = (
  append_assoc m.past (p ∷ []) ps ∙ ap (λ (l : List Step). m.past ++ l) e,
  (let n : suc (length ps) ≡ length m.future = ap length e in omega arith),
)

pub lists_backs : (k : ℕ) (m : Machine) → ((backs k m).past ++ (backs k m).future ≡ m.past ++ m.future) × (length (backs k m).past ≡ length m.past - k)
unfolding backs
lists_backs zero m = (refl, omega arith)
lists_backs (suc k) m =
    let one = lists_back m (ends_of m.past) (list_again m.past) in
    let n = one.1 in
    let more = lists_backs k (back (ends_of m.past) m) in
    (more.0 ∙ one.0, omega (arith, more.1))

pub lists_forths : (k : ℕ) (m : Machine) → ((forths k m).past ++ (forths k m).future ≡ m.past ++ m.future) × (length (forths k m).future ≡ length m.future - k)
unfolding forths
lists_forths zero m = (refl, omega arith)
lists_forths (suc k) m =
    let one = lists_forth m m.future refl in
    let n = one.1 in
    let more = lists_forths k (forth m.future m) in
    (more.0 ∙ one.0, omega (arith, more.1))

-- an undo that finds a step, and a redo, move as many as their run has
pub undone_fewer : (m : Machine) (p : Step) (ps : List Step) → length (undone (p ∷ ps) m).next.past ≡ length m.past - past_run m
unfolding undone
undone_fewer m p ps = (lists_backs (past_run m) m).1

pub redone_fewer : (m : Machine) (p : Step) (ps : List Step) → length (redone (p ∷ ps) m).next.future ≡ length m.future - future_run m
unfolding redone
redone_fewer m p ps = (lists_forths (future_run m) m).1

-- ---- one more step

-- it keeps its put's gesture
pub gesture_kept : (side block : ℕ) (v : BlockVector) (gesture : ℕ) (m : Sets) → (put_step side block v gesture m).gesture ≡ gesture
unfolding put_step
gesture_kept side block v gesture m = refl

pub recorded_room : (D : ℕ) (past : List Step) (p : Step) → length past < D → recorded D past p ≡ past ++ (p ∷ [])
unfolding recorded
recorded_room D past p h = ap (λ (l : List Step). l ++ (p ∷ [])) (cond_false _ _ _ (ne_eqb (length past) D (λ e. omega arith)))

pub recorded_full : (D : ℕ) (past : List Step) (p : Step) → length past ≡ D → recorded D past p ≡ drop 1 past ++ (p ∷ [])
unfolding recorded
recorded_full D past p e = ap (λ (l : List Step). l ++ (p ∷ [])) (cond_true _ _ _ (eq-eqb (length past) D e))

pub recorded_length : (D : ℕ) (past : List Step) (p : Step) → 1 ≤ D → length past ≤ D → length (recorded D past p) ≡ min (length past + 1) D
recorded_length D past p h l = go (dec_lt (length past) D)
  where
    go : Dec (length past < D) → length (recorded D past p) ≡ min (length past + 1) D
    go (yes k) = ap length (recorded_room D past p k) ∙ length-append past (p ∷ []) ∙ omega arith
    go (no k) =
        let e : length past ≡ D = omega arith in
        ap length (recorded_full D past p e) ∙ length-append (drop 1 past) (p ∷ []) ∙ ap (λ (n : ℕ). n + 1) (length-drop 1 past) ∙ omega arith

-- ---- an accepted pool leaves no step

pub pool_empties : (s : FieldShape) (p q : List ℕ) (m : Machine) → ((after_pool s p q m).past ≡ []) × ((after_pool s p q m).future ≡ [])
unfolding after_pool begun_anew
pool_empties s p q m = (refl, refl)

-- ---- a refused call leaves the machine as it was, but for a take refused by 6 with flag bit 0 set

module _ (D : ℕ) (s : FieldShape) where
  accepted_renews : renews s 0 ≡ false → ⊥
  unfolding renews
  accepted_renews e = true≢false e

  undo_stays : (m : Machine) (l : List Step) → renews s (undone l m).number ≡ false → (undone l m).next ≡ m
  unfolding undone
  undo_stays m [] h = refl
  undo_stays m (p ∷ ps) h = absurd (accepted_renews h)

  redo_stays : (m : Machine) (l : List Step) → renews s (redone l m).number ≡ false → (redone l m).next ≡ m
  unfolding redone
  redo_stays m [] h = refl
  redo_stays m (p ∷ ps) h = absurd (accepted_renews h)

  not_accepted : (n : ℕ) → renews s n ≡ false → eqb n 0 ≡ false
  unfolding renews
  not_accepted n h = or_left_no (eqb n 0) (eqb n 6 && has_backward s) h

  -- a pool that is refused by 6 leaves it too, with flag bit 0 set or not
  pub pool_stays : (p q : List ℕ) (m : Machine) → ((step D s (pool p q) m).number ≡ 0 → ⊥) → (step D s (pool p q) m).next ≡ m
  unfolding step
  pool_stays p q m h = cond_false (eqb (both_number s p q) 0) (after_pool s p q m) m (ne_eqb (both_number s p q) 0 h)

  pub refused_stays : (x : Call) (m : Machine) → renews s (step D s x m).number ≡ false → (step D s x m).next ≡ m
  unfolding step
  refused_stays (take payload) m h = cond_false _ _ _ h
  refused_stays (put side block v gesture) m h = cond_false _ _ _ (not_accepted (put_number s side block v) h)
  refused_stays undo m h = undo_stays m m.past h
  refused_stays redo m h = redo_stays m m.future h
  refused_stays (retime t) m h = cond_false _ _ _ (not_accepted (retime_number t) h)
  refused_stays (pool p q) m h = pool_stays p q m (eqb-false (both_number s p q) 0 (not_accepted (both_number s p q) h))

  -- ---- the numbers that arise

  payload_answers : (payload : List ℕ) (h b f : Bool) → Answers (take payload) (first (unless h 4) (first (unless b 5) (unless f 6)))
  unfolding first unless arises is_one_of numbers_of
  payload_answers p true true true = inl refl
  payload_answers p true true false = inr refl
  payload_answers p true false f = inr refl
  payload_answers p false b f = inr refl

  -- the first payload's number, else the second's
  either_answers : (p q : List ℕ) (n k : ℕ) → Answers (take p) n → Answers (take q) k → Answers (pool p q) (first n k)
  unfolding first arises numbers_of
  either_answers p q n k a b = go (eqb n 0) (eqb-true n 0)
    where
      go : (t : Bool) → (t ≡ true → n ≡ 0) → Answers (pool p q) (cond t k n)
      go true h = b
      go false h = a

  put_answers : (side block : ℕ) (v : BlockVector) (gesture : ℕ) (a b : Bool) → Answers (put side block v gesture) (first (unless a 8) (unless b 7))
  unfolding first unless arises is_one_of numbers_of
  put_answers side block v gesture true true = inl refl
  put_answers side block v gesture true false = inr refl
  put_answers side block v gesture false b = inr refl

  retime_answers : (t : ℤ) (a : Bool) → Answers (retime t) (unless a 7)
  unfolding unless arises is_one_of numbers_of
  retime_answers t true = inl refl
  retime_answers t false = inr refl

  undo_answers : (m : Machine) (l : List Step) → Answers undo (undone l m).number
  unfolding undone arises is_one_of numbers_of
  undo_answers m [] = inr refl
  undo_answers m (p ∷ ps) = inl refl

  redo_answers : (m : Machine) (l : List Step) → Answers redo (redone l m).number
  unfolding redone arises is_one_of numbers_of
  redo_answers m [] = inr refl
  redo_answers m (p ∷ ps) = inl refl

  -- every answer is 0 or a number of its call
  pub number_arises : (x : Call) (m : Machine) → Answers x (step D s x m).number
  unfolding step payload_number both_number put_number retime_number
  number_arises (take payload) m = payload_answers payload (head_good s payload) (backward_good s payload) (forward_good s payload)
  number_arises (put side block v gesture) m =
      put_answers side block v gesture ((eqb side 1 || eqb side 2) && ltb block (blocks_of s)) (sad_good v.sad)
  number_arises undo m = undo_answers m m.past
  number_arises redo m = redo_answers m m.future
  number_arises (retime t) m = retime_answers t (time_good t)
  number_arises (pool p q) m =
      either_answers p q (payload_number s p) (payload_number s q)
      (payload_answers p (head_good s p) (backward_good s p) (forward_good s p)) (payload_answers q (head_good s q) (backward_good s q) (forward_good s q))

  pub run_answered : (xs : List Call) (m : Machine) → Answered xs (run D s xs m).numbers
  unfolding run Answered
  run_answered [] m = tt
  run_answered (x ∷ xs) m = (number_arises x m, run_answered xs (step D s x m).next)

  pub run_length_lem : (xs : List Call) (m : Machine) → length (run D s xs m).numbers ≡ length xs
  unfolding run
  run_length_lem [] m = refl
  run_length_lem (x ∷ xs) m = ap suc (run_length_lem xs (step D s x m).next)

one_between : (n k : ℕ) (b : Bool) → 4 ≤ k → k ≤ 10 → (eqb n k || b) ≡ true → (b ≡ true → (4 ≤ n) × (n ≤ 10)) → (4 ≤ n) × (n ≤ 10)
one_between n k b l h e more = ⊎_elim (λ f. let q : n ≡ k = eqb-true n k f in (omega arith, omega arith)) more (or_either (eqb n k) b e)

none_between : (n : ℕ) → false ≡ true → (4 ≤ n) × (n ≤ 10)
none_between n e = absurd (false≢true e)

-- those of a payload
payload_between : (n : ℕ) → is_one_of n (4 ∷ 5 ∷ 6 ∷ []) ≡ true → (4 ≤ n) × (n ≤ 10)
unfolding is_one_of
payload_between n e =
    one_between n 4 _ (omega arith) (omega arith) e (λ f. one_between n 5 _ (omega arith) (omega arith) f (λ g. one_between n 6 _ (omega arith) (omega arith) g (none_between n)))

-- no number but 4 to 10
pub arises_between : (x : Call) (n : ℕ) → arises x n ≡ true → (4 ≤ n) × (n ≤ 10)
unfolding arises is_one_of numbers_of
arises_between (take payload) n e = payload_between n e
arises_between (put side block v gesture) n e = one_between n 8 _ (omega arith) (omega arith) e (λ f. one_between n 7 _ (omega arith) (omega arith) f (none_between n))
arises_between undo n e = one_between n 9 _ (omega arith) (omega arith) e (none_between n)
arises_between redo n e = one_between n 10 _ (omega arith) (omega arith) e (none_between n)
arises_between (retime t) n e = one_between n 7 _ (omega arith) (omega arith) e (none_between n)
arises_between (pool p q) n e = payload_between n e
