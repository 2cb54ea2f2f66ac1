-- The machine (paper 01, 'Session', as paper 02's requests 2 and 3 change it): what it is given is D, open's shape and each call's arguments; no session and
-- no buffer enters it.
use Rattle.std.specs.Prelude.{Bool, cond, ◌&&◌, ◌||◌, List, [], ◌∷◌, ◌++◌, map, reverse, ℕ, zero, suc, eqb, ltb, ℤ, pos, negsuc, length, drop, replicate}
use Rattle.arith.specs.Integers.{in_range}
use Rattle.record.specs.declared.entry.BlockVector.{BlockVector}
use Rattle.record.specs.declared.shape.FieldShape.{FieldShape}
use Rattle.record.specs.Numbers.{first, unless}
use Rattle.record.specs.Shape.{blocks_of, set_size}
use Rattle.record.specs.Entries.{entry_at, with_entry, set_of}
use Rattle.record.specs.Update.{has_backward, payload_number, backward_after, forward_after}
use Rattle.pooling.specs.Pool.{both_number, pooled_backward, pooled_forward}
use Rattle.runs.specs.Runs.{first_run}
use Rattle.machine.specs.Call.{Call, take, put, undo, redo, retime, pool}

-- ---- its state

-- a step: block, side, old entry, new entry, and the number of the gesture that made it
pub record Step : Type 0 where
  pub block : ℕ
  pub side : ℕ
  pub old : BlockVector
  pub new : BlockVector
  pub gesture : ℕ

-- sets B and F, 8n bytes each
pub record Sets : Type 0 where
  pub backward : List ℕ
  pub forward : List ℕ

-- sets, time T, lists past (oldest first) and future (next redo first)
pub record Machine : Type 0 where
  pub sets : Sets
  pub time : ℤ
  pub past : List Step
  pub future : List Step

-- what open begins with: zero vectors, no steps, its own time
unfoldable pub opened : FieldShape → ℤ → Machine
opened s T =
    record {
      sets = record { backward = replicate (set_size s) 0; forward = replicate (set_size s) 0 };
      time = T;
      past = [];
      future = [];
    }

-- ---- one entry of the sets: side 1 is in B, side 2 in F

unfoldable pub entry_of : ℕ → ℕ → Sets → BlockVector
entry_of side block m = entry_at (set_of side m.backward m.forward) block

-- the sets with another entry there: in B, or else in F
unfoldable pub stored_in : Bool → ℕ → BlockVector → Sets → Sets
stored_in in_b block v m =
    cond in_b
    (record { backward = with_entry m.backward block v; forward = m.forward })
    (record { backward = m.backward; forward = with_entry m.forward block v })

unfoldable pub stored : ℕ → ℕ → BlockVector → Sets → Sets
stored side = stored_in (eqb side 1)

-- ---- its answers, by the table under 'Refused calls'

pub record Reply : Type 0 where
  pub number : ℕ
  pub next : Machine

abbrev pub reply : ℕ → Machine → Reply
reply number next = record { number = number; next = next }

-- a put's sad is from 0 to 16,777,215
abbrev pub sad_most : ℕ
sad_most = 16777215

unfoldable pub sad_good : ℤ → Bool
sad_good sad = in_range (pos 0) (pos sad_most) sad

-- put: its place is judged before its sad. 8 where there is no such side or no such block, 7 where 24 bits can't hold the sad
unfoldable pub put_number : FieldShape → ℕ → ℕ → BlockVector → ℕ
put_number s side block v =
    first (unless ((eqb side 1 || eqb side 2) && ltb block (blocks_of s)) 8) (unless (sad_good v.sad) 7)

-- a time is from -65,535 to 65,535
unfoldable pub time_good : ℤ → Bool
time_good T = in_range (negsuc 65534) (pos 65535) T

-- retime: 7, time outside its range
unfoldable pub retime_number : ℤ → ℕ
retime_number T = unless (time_good T) 7

-- ---- its steps

-- a take begins anew where it is accepted, and where its forward half alone fails after bit 0 has renewed the backward set
unfoldable pub renews : FieldShape → ℕ → Bool
renews s number = eqb number 0 || (eqb number 6 && has_backward s)

-- other sets, and no steps
unfoldable pub begun_anew : Sets → Machine → Machine
begun_anew sets m = record { sets = sets; time = m.time; past = []; future = [] }

-- take: each set by the rules of `update`
unfoldable pub taken_sets : FieldShape → List ℕ → Sets → Sets
taken_sets s payload m =
    record {
      backward = backward_after s payload (payload_number s payload) m.backward;
      forward = forward_after s payload (payload_number s payload) m.forward;
    }

unfoldable pub taken : FieldShape → List ℕ → Machine → Machine
taken s payload m = begun_anew (taken_sets s payload m.sets) m

-- pool: of each flagged set the entries of two payloads that have the smaller sads (paper 02, request 3)
unfoldable pub pooled_sets : FieldShape → List ℕ → List ℕ → Sets → Sets
pooled_sets s p q m = record { backward = pooled_backward s p q m.backward; forward = pooled_forward s p q m.forward }

unfoldable pub after_pool : FieldShape → List ℕ → List ℕ → Machine → Machine
after_pool s p q m = begun_anew (pooled_sets s p q m.sets) m

-- past with one more step at its end; where it holds D already, the first is dropped
unfoldable pub recorded : ℕ → List Step → Step → List Step
recorded D past p = cond (eqb (length past) D) (drop 1 past) past ++ (p ∷ [])

-- put's step: the present entry, the given one and the gesture; it looks at no other step
unfoldable pub put_step : ℕ → ℕ → BlockVector → ℕ → Sets → Step
put_step side block v gesture m = record { block = block; side = side; old = entry_of side block m; new = v; gesture = gesture }

-- put: the given entry replaces the block's on that side; past ends with a step of both, which keeps the gesture, and future is empty
unfoldable pub after_put : ℕ → ℕ → ℕ → BlockVector → ℕ → Machine → Machine
after_put D side block v gesture m =
    let p : Step = put_step side block v gesture m.sets in
    record { sets = stored side block v m.sets; time = m.time; past = recorded D m.past p; future = [] }

-- a list seen from its end: what comes before its last, and its last
pub data Ends : Type 0 where
  none : Ends
  some : List Step → Step → Ends

unfoldable pub before : Step → Ends → Ends
before x none = some [] x
before x (some ps p) = some (x ∷ ps) p

unfoldable pub ends_of : List Step → Ends
ends_of [] = none
ends_of (x ∷ ps) = before x (ends_of ps)

-- ---- one step taken back, and one brought back (paper 01's undo and redo)

-- the old entry of past's last step is its block's again, and the step is future's first
unfoldable pub back : Ends → Machine → Machine
back none m = m
back (some ps p) m =
    record { sets = stored p.side p.block p.old m.sets; time = m.time; past = ps; future = p ∷ m.future }

-- the new entry of future's first step is its block's, and the step is past's last
unfoldable pub forth : List Step → Machine → Machine
forth [] m = m
forth (p ∷ ps) m =
    record { sets = stored p.side p.block p.new m.sets; time = m.time; past = m.past ++ (p ∷ []); future = ps }

-- k steps, one by one: back latest first, forth first of future first
unfoldable pub backs : ℕ → Machine → Machine
backs zero m = m
backs (suc k) m = backs k (back (ends_of m.past) m)

unfoldable pub forths : ℕ → Machine → Machine
forths zero m = m
forths (suc k) m = forths k (forth m.future m)

-- ---- undo and redo: a whole run of steps with one gesture (paper 02, request 2)

abbrev pub gestures_of : List Step → List ℕ
gestures_of = map (λ (p : Step). p.gesture)

-- how many steps past's run has: the longest stretch at its end whose gestures equal the last one's
unfoldable pub past_run : Machine → ℕ
past_run m = first_run (reverse (gestures_of m.past))

-- and future's: at its head, equal to the first one's
unfoldable pub future_run : Machine → ℕ
future_run m = first_run (gestures_of m.future)

-- undo: 9 where past is empty; else its run is taken back
unfoldable pub undone : List Step → Machine → Reply
undone [] m = reply 9 m
undone (p ∷ ps) m = reply 0 (backs (past_run m) m)

-- redo: 10 where future is empty; else its run is brought back
unfoldable pub redone : List Step → Machine → Reply
redone [] m = reply 10 m
redone (p ∷ ps) m = reply 0 (forths (future_run m) m)

-- retime: another time, and nothing else
unfoldable pub retimed : ℤ → Machine → Machine
retimed T m = record { sets = m.sets; time = T; past = m.past; future = m.future }

-- one call: its number, and the next state. What is refused changes nothing, but for the take that begins anew; a pool does so only where both of its
-- payloads are accepted
unfoldable pub step : ℕ → FieldShape → Call → Machine → Reply
step D s (take payload) m =
    reply (payload_number s payload) (cond (renews s (payload_number s payload)) (taken s payload m) m)
step D s (put side block v gesture) m =
    reply (put_number s side block v) (cond (eqb (put_number s side block v) 0) (after_put D side block v gesture m) m)
step D s undo m = undone m.past m
step D s redo m = redone m.future m
step D s (retime T) m = reply (retime_number T) (cond (eqb (retime_number T) 0) (retimed T m) m)
step D s (pool p q) m = reply (both_number s p q) (cond (eqb (both_number s p q) 0) (after_pool s p q m) m)

-- ---- a list of calls: every answer in it, and the machine after it

pub record Ran : Type 0 where
  pub numbers : List ℕ
  pub end : Machine

unfoldable pub run : ℕ → FieldShape → List Call → Machine → Ran
run D s [] m = record { numbers = []; end = m }
run D s (x ∷ xs) m =
    let r : Reply = step D s x m in
    let rest : Ran = run D s xs r.next in
    record { numbers = r.number ∷ rest.numbers; end = rest.end }
