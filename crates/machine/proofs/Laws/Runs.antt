-- Steps taken back and brought back move the line between past and future; every call leaves it between two runs.
use Rattle.std.specs.Prelude.{◌≡◌, ℕ, zero, suc, ◌≤◌, eqb, ℤ, length}
use Rattle.std.proofs.Math.Path.{refl}
use Rattle.std.proofs.Common.{sym, ap, ◌∙◌, subst, arith}
use mathlib.Core.List.{List, [], ◌∷◌, ◌++◌, map-append, reverse, reverse-append}
use Rattle.std.proofs.lemmas.List.{length-map, length-reverse}
use Rattle.arith.specs.Booleans.{cond_elim}
use Rattle.record.specs.declared.entry.BlockVector.{BlockVector}
use Rattle.record.specs.declared.shape.FieldShape.{FieldShape}
use Rattle.record.specs.Update.{payload_number}
use Rattle.pooling.specs.Pool.{both_number}
use Rattle.runs.specs.Runs.{first_run, Line}
use Rattle.runs.proofs.Laws.Runs.{turned, moved_back, first_some, first_most, apart_end, apart_turned, MovedRun, moved_run, moved_none}
use Rattle.machine.specs.Call.{Call, take, put, undo, redo, retime, pool}
use Rattle.machine.specs.Machine.{Step, Sets, Machine, opened, put_number, retime_number, renews, begun_anew, taken_sets, taken, pooled_sets, after_pool, after_put, Ends, none, some, ends_of, back, forth, backs, forths, gestures_of, past_run, future_run, undone, redone, retimed, step, run}
use Rattle.machine.proofs.Laws.Machine.{list_of, list_again}
use Rattle.machine.specs.Runs.{line_of, Parted}

-- ---- the line moves by one step, and by k

-- the gestures of past with one more step, latest first
behind_last : (ps : List Step) (p : Step) → reverse (gestures_of (ps ++ (p ∷ []))) ≡ p.gesture ∷ reverse (gestures_of ps)
behind_last ps p = ap reverse (map-append _ ps (p ∷ [])) ∙ reverse-append (gestures_of ps) (p.gesture ∷ [])

pub line_backs : (k : ℕ) (m : Machine) → line_of (backs k m) ≡ moved_back k (line_of m).behind (line_of m).ahead
unfolding backs back list_of moved_back line_of
line_backs zero m = refl
line_backs (suc k) m = go (ends_of m.past) (list_again m.past) (line_backs k)
  where
    go : (e : Ends) → list_of e ≡ m.past → ((m : Machine) → line_of (backs k m) ≡ moved_back k (line_of m).behind (line_of m).ahead)
        → line_of (backs k (back e m)) ≡ moved_back (suc k) (reverse (gestures_of m.past)) (gestures_of m.future)
    go none e more =
        more m
        ∙ ap (λ (l : List Step). moved_back k (reverse (gestures_of l)) (gestures_of m.future)) (sym e)
        ∙ moved_none k (gestures_of m.future)
        ∙ ap (λ (l : List Step). moved_back (suc k) (reverse (gestures_of l)) (gestures_of m.future)) e
    go (some ps p) e more =
        more _
        ∙ ap (λ (l : List ℕ). moved_back (suc k) l (gestures_of m.future)) (sym (behind_last ps p))
        ∙ ap (λ (l : List Step). moved_back (suc k) (reverse (gestures_of l)) (gestures_of m.future)) e

pub line_forths : (k : ℕ) (m : Machine) → line_of (forths k m) ≡ turned (moved_back k (line_of m).ahead (line_of m).behind)
unfolding forths forth moved_back line_of turned
line_forths zero m = refl
line_forths (suc k) m = go m.future refl (line_forths k)
  where
    go : (l : List Step) → l ≡ m.future → ((m : Machine) → line_of (forths k m) ≡ turned (moved_back k (line_of m).ahead (line_of m).behind))
        → line_of (forths k (forth l m)) ≡ turned (moved_back (suc k) (gestures_of m.future) (reverse (gestures_of m.past)))
    go [] e more =
        more m
        ∙ ap (λ (l : List Step). turned (moved_back k (gestures_of l) (reverse (gestures_of m.past)))) (sym e)
        ∙ ap turned (moved_none k (reverse (gestures_of m.past)))
        ∙ ap (λ (l : List Step). turned (moved_back (suc k) (gestures_of l) (reverse (gestures_of m.past)))) e
    go (p ∷ ps) e more =
        more _
        ∙ ap (λ (l : List ℕ). turned (moved_back k (gestures_of ps) l)) (behind_last m.past p)
        ∙ ap (λ (l : List Step). turned (moved_back (suc k) (gestures_of l) (reverse (gestures_of m.past)))) e

-- ---- an undo moves it over one run, and a redo over the same one

behind_length : (m : Machine) → length (line_of m).behind ≡ length m.past
unfolding line_of
behind_length m = length-reverse (gestures_of m.past) ∙ length-map m.past _

ahead_length : (m : Machine) → length (line_of m).ahead ≡ length m.future
unfolding line_of
ahead_length m = length-map m.future _

-- the run of past has a step where past has one, and no more than past has; and so the run of future
pub past_run_some : (m : Machine) → 1 ≤ length m.past → 1 ≤ past_run m
unfolding past_run line_of
past_run_some m h = first_some (line_of m).behind (rw (behind_length m) h)

pub past_run_most : (m : Machine) → past_run m ≤ length m.past
unfolding past_run line_of
past_run_most m = rw (behind_length m) at (first_most (line_of m).behind)

pub future_run_most : (m : Machine) → future_run m ≤ length m.future
unfolding future_run line_of
future_run_most m = rw (ahead_length m) at (first_most (line_of m).ahead)

-- past's run is taken back: it is future's run then, the line stands between two runs, and past has one run less
pub past_run_moved : (m : Machine) → 1 ≤ length m.past → Parted m → MovedRun (line_of m).behind (line_of m).ahead (line_of (backs (past_run m) m))
unfolding past_run Parted line_of
past_run_moved m h w =
    subst (MovedRun (line_of m).behind (line_of m).ahead) (sym (line_backs (first_run (line_of m).behind) m))
    (moved_run (line_of m).behind (line_of m).ahead (omega (arith, behind_length m)) w)

-- future's run is brought back: the same, seen from the other side
pub future_run_moved : (m : Machine) → 1 ≤ length m.future → Parted m → MovedRun (line_of m).ahead (line_of m).behind (turned (line_of (forths (future_run m) m)))
unfolding future_run Parted turned line_of
future_run_moved m h w =
    subst (λ (z : Line). MovedRun (line_of m).ahead (line_of m).behind (turned z)) (sym (line_forths (first_run (line_of m).ahead) m))
    (moved_run (line_of m).ahead (line_of m).behind (omega (arith, ahead_length m)) (apart_turned (line_of m).behind (line_of m).ahead w))

-- ---- every call keeps it so

pub opened_parted : (s : FieldShape) (t : ℤ) → Parted (opened s t)
unfolding Parted opened line_of
opened_parted s t = apart_end _

pub anew_parted : (sets : Sets) (m : Machine) → Parted (begun_anew sets m)
unfolding Parted begun_anew line_of
anew_parted sets m = apart_end _

pub put_parted : (D side block : ℕ) (v : BlockVector) (gesture : ℕ) (m : Machine) → Parted (after_put D side block v gesture m)
unfolding Parted after_put line_of
put_parted D side block v gesture m = apart_end _

pub retimed_parted : (t : ℤ) (m : Machine) → Parted m → Parted (retimed t m)
unfolding Parted retimed line_of
retimed_parted t m w = w

undone_parted : (l : List Step) (m : Machine) → l ≡ m.past → Parted m → Parted (undone l m).next
unfolding undone Parted
undone_parted [] m e w = w
undone_parted (p ∷ ps) m e w = (past_run_moved m (let n = ap length e in omega arith) w).apart

redone_parted : (l : List Step) (m : Machine) → l ≡ m.future → Parted m → Parted (redone l m).next
unfolding redone Parted turned
redone_parted [] m e w = w
redone_parted (p ∷ ps) m e w =
    let z : Line = line_of (forths (future_run m) m) in
    apart_turned z.ahead z.behind (future_run_moved m (let n = ap length e in omega arith) w).apart

module _ (D : ℕ) (s : FieldShape) where
  pub step_parted : (x : Call) (m : Machine) → Parted m → Parted (step D s x m).next
  unfolding step taken after_pool
  step_parted (take payload) m w = cond_elim Parted (renews s (payload_number s payload)) (taken s payload m) m (λ e. anew_parted (taken_sets s payload m.sets) m) (λ e. w)
  step_parted (put side block v gesture) m w =
      cond_elim Parted (eqb (put_number s side block v) 0) (after_put D side block v gesture m) m (λ e. put_parted D side block v gesture m) (λ e. w)
  step_parted undo m w = undone_parted m.past m refl w
  step_parted redo m w = redone_parted m.future m refl w
  step_parted (retime t) m w = cond_elim Parted (eqb (retime_number t) 0) (retimed t m) m (λ e. retimed_parted t m w) (λ e. w)
  step_parted (pool p q) m w = cond_elim Parted (eqb (both_number s p q) 0) (after_pool s p q m) m (λ e. anew_parted (pooled_sets s p q m.sets) m) (λ e. w)

  pub run_parted : (xs : List Call) (m : Machine) → Parted m → Parted (run D s xs m).end
  unfolding run
  run_parted [] m w = w
  run_parted (x ∷ xs) m w = run_parted xs (step D s x m).next (step_parted x m w)
