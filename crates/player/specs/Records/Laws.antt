-- Laws of records: their sizes, that a record that begins is there and of a known kind, the calls in turn, and that their arguments are values of their
-- types.
use Rattle.std.specs.Prelude.{◌≡◌, refl, Bool, true, false, cond, List, [], ◌∷◌, eqb, leb, take, Some, None}
use Rattle.std.proofs.Math.Path.{sym, ap, subst}
use Rattle.std.proofs.Common.{◌∙◌, eqb-true, le-leb, leb-true, eq-eqb, ne_eqb, length-take, drop_of_length-le, drop-drop}
use Prim.Native.Nat.{ℕ, zero, suc, ◌+◌, ◌-◌, ◌≤◌, ◌<◌, min}
use Rattle.std.proofs.Math.Decide.{dec_lt, ℕ_discrete}
use native.Mathlib.Omega.{arith}
use Rattle.std.proofs.Math.ListN.{length, drop}
use Rattle.arith.specs.Booleans.{cond_elim, cond_true, cond_false}
use Rattle.arith.specs.Splice.Laws.{take_drop}
use Rattle.record.specs.Bytes.{Bytes, byte_at, u32_at, i32_at}
use Rattle.record.specs.Bytes.Laws.{bytes_take, bytes_drop, u32_below, i16_fits, i32_fits}
use Rattle.machine.specs.Call.{Typed, AllCalls, AllTyped}
use Rattle.command.specs.declared.Command.{Command}
use Rattle.command.specs.Commands.{Known, kind_of, read_kind, commanded, plain_command, put_command, retime_command}
use Rattle.command.specs.Commands.Laws.{by_put, by_retime, by_pool, by_each, read_known, plain_read, asked_put_typed, asked_retime_typed, asked_plain_typed}
use Rattle.player.specs.Records.{found, whole_size, take_size, pool_size, record_size, next_size, put_in, command_in, head_size, first_end, payload_in, second_in, call_in, calls_in}

-- ---- sizes

-- a size or 0, by a test: within what the size is within
chosen_within : (t : Bool) (size most : ℕ) → (t ≡ true → size ≤ most) → cond t size 0 ≤ most
chosen_within true size most f = f refl
chosen_within false size most f = omega arith

-- a size that isn't 0 was chosen by its test
some_chosen : {P : Type 0} (t : Bool) (size : ℕ) → (t ≡ true → 0 < size → P) → 0 < cond t size 0 → P
some_chosen true size f k = f refl k
some_chosen false size f k = let z : ⊥ = omega arith in absurd z

whole_within : (there size : ℕ) → whole_size there size ≤ there
unfolding whole_size
whole_within there size = chosen_within (leb size there) size there (leb-true size there)

-- a size that was found isn't 0
pub found_some : (n size : ℕ) → found n ≡ Some size → (size ≡ n) × (size ≡ 0 → ⊥)
unfolding found
found_some n size e = go (ℕ_discrete n 0)
  where
    go : Dec (n ≡ 0) → (size ≡ n) × (size ≡ 0 → ⊥)
    go (yes z) = let f : None ≡ Some size = sym (cond_true (eqb n 0) None (Some n) (eq-eqb n 0 z)) ∙ e in (absurd (cc), cc)
    go (no m) = let f : Some n ≡ Some size = sym (cond_false (eqb n 0) None (Some n) (ne_eqb n 0 m)) ∙ e in (cc, λ z. m (cc))

pub found_none : (n : ℕ) → found n ≡ None → n ≡ 0
unfolding found
found_none n e = go (ℕ_discrete n 0)
  where
    go : Dec (n ≡ 0) → n ≡ 0
    go (yes z) = z
    go (no m) = let f : Some n ≡ None = sym (cond_false (eqb n 0) None (Some n) (ne_eqb n 0 m)) ∙ e in absurd (cc)

pub whole_there : (there size : ℕ) → size ≤ there → whole_size there size ≡ size
unfolding whole_size
whole_there there size h = cond_true _ _ _ (le-leb size there h)

whole_some : (there size : ℕ) → 0 < whole_size there size → size ≤ there
unfolding whole_size
whole_some there size = some_chosen (leb size there) size (λ e k. leb-true size there e)

take_within : (l : List ℕ) → take_size l ≤ length l
unfolding take_size
take_within l = chosen_within (leb 5 (length l)) (whole_size (length l) (5 + u32_at l 1)) (length l) (λ e. whole_within (length l) (5 + u32_at l 1))

pool_within : (l : List ℕ) → pool_size l ≤ length l
unfolding pool_size
pool_within l = chosen_within (leb 9 (length l)) (whole_size (length l) (9 + u32_at l 1 + u32_at l 5)) (length l) (λ e. whole_within (length l) (9 + u32_at l 1 + u32_at l 5))

-- a kind that isn't 0 is there
kind_there : (l : List ℕ) (k : ℕ) → byte_at l 0 ≡ suc k → 1 ≤ length l
kind_there [] k e = let z : ⊥ = omega arith in absurd z
kind_there (x ∷ l) k e = omega arith

module _ (l : List ℕ) where
  pub record_within : record_size l ≤ length l
  unfolding record_size
  record_within =
      by_each _ _ _ _ _ _ (λ (n : ℕ). n ≤ length l) (byte_at l 0) (λ e. take_within l) (λ e. whole_within (length l) 22) (kind_there l 2) (kind_there l 3)
      (λ e. whole_within (length l) 5) (chosen_within (eqb (byte_at l 0) 6) (pool_size l) (length l) (λ e. pool_within l))

  -- a record that begins is there, and has what its kind needs
  pub record_there : 0 < record_size l → 1 ≤ length l
  record_there h = omega (arith, record_within)

  pub put_there : 0 < record_size l → byte_at l 0 ≡ 2 → 22 ≤ length l
  unfolding record_size
  put_there h e = whole_some (length l) 22 (subst (λ (n : ℕ). 0 < n) (by_put _ _ _ _ _ _ (byte_at l 0) e) h)

  pub retime_there : 0 < record_size l → byte_at l 0 ≡ 5 → 5 ≤ length l
  unfolding record_size
  retime_there h e = whole_some (length l) 5 (subst (λ (n : ℕ). 0 < n) (by_retime _ _ _ _ _ _ (byte_at l 0) e) h)

  -- a pool's size is that of its parts
  pool_of_lem : byte_at l 0 ≡ 6 → record_size l ≡ pool_size l
  unfolding record_size
  pool_of_lem e =
      by_pool _ _ _ _ _ _ (byte_at l 0) (λ n. omega arith) (λ n. omega arith) (λ n. omega arith) (λ n. omega arith) (λ n. omega arith)
      ∙ cond_true (eqb (byte_at l 0) 6) (pool_size l) 0 (eq-eqb (byte_at l 0) 6 e)

  pub pool_there : 0 < record_size l → byte_at l 0 ≡ 6 → (record_size l ≡ 9 + u32_at l 1 + u32_at l 5) × (9 + u32_at l 1 + u32_at l 5 ≤ length l)
  unfolding pool_size
  pool_there h e =
      some_chosen (leb 9 (length l)) (whole_size (length l) parts)
      (λ t k. let w : parts ≤ length l = whole_some (length l) parts k in (pool_of_lem e ∙ cond_true (leb 9 (length l)) _ 0 t ∙ whole_there (length l) parts w, w))
      (subst (λ (n : ℕ). 0 < n) (pool_of_lem e) h)
    where
      parts : ℕ
      parts = 9 + u32_at l 1 + u32_at l 5

  -- where the first payload ends, by the kind; it ends within the record
  pub end_pool : byte_at l 0 ≡ 6 → first_end l ≡ 9 + u32_at l 1
  unfolding first_end
  end_pool e = cond_true (eqb (byte_at l 0) 6) _ _ (eq-eqb (byte_at l 0) 6 e)

  pub end_other : (byte_at l 0 ≡ 6 → ⊥) → first_end l ≡ record_size l
  unfolding first_end
  end_other n = cond_false (eqb (byte_at l 0) 6) _ _ (ne_eqb (byte_at l 0) 6 n)

  pub first_within : 0 < record_size l → first_end l ≤ record_size l
  first_within h = go (ℕ_discrete (byte_at l 0) 6)
    where
      go : Dec (byte_at l 0 ≡ 6) → first_end l ≤ record_size l
      go (yes e) = omega (arith, end_pool e, (pool_there h e).0)
      go (no n) = omega (arith, end_other n)

  -- its command by its kind, which is a known one
  pub command_put : byte_at l 0 ≡ 2 → command_in l ≡ put_in l
  unfolding command_in
  command_put e = cond_true _ _ _ (eq-eqb _ 2 e)

  pub command_retime : byte_at l 0 ≡ 5 → command_in l ≡ retime_command (i32_at l 1)
  unfolding command_in
  command_retime e = cond_false _ _ _ (ne_eqb (byte_at l 0) 2 (λ n. omega arith)) ∙ cond_true _ _ _ (eq-eqb _ 5 e)

  pub command_plain : (byte_at l 0 ≡ 2 → ⊥) → (byte_at l 0 ≡ 5 → ⊥) → command_in l ≡ plain_command (byte_at l 0)
  unfolding command_in
  command_plain n m = cond_false _ _ _ (ne_eqb _ 2 n) ∙ cond_false _ _ _ (ne_eqb _ 5 m)

  -- a record that begins has a known kind, which is its command's
  pub kind_known : 0 < record_size l → Known (byte_at l 0)
  unfolding record_size
  kind_known =
      by_each _ _ _ _ _ _ (λ (n : ℕ). 0 < n → Known (byte_at l 0)) (byte_at l 0) (λ e h. known 1 (omega arith) e) (λ e h. known 2 (omega arith) e)
      (λ e h. known 3 (omega arith) e) (λ e h. known 4 (omega arith) e) (λ e h. known 5 (omega arith) e)
      (some_chosen (eqb (byte_at l 0) 6) (pool_size l) (λ t h. known 6 (omega arith) (eqb-true (byte_at l 0) 6 t)))
    where
      known : (n : ℕ) → (1 ≤ n) × (n ≤ 6) → byte_at l 0 ≡ n → Known (byte_at l 0)
      known n h e = record { least = omega arith; most = omega arith }

  -- the kind that the first byte of any list is read as is that of its command; of a known kind it is the byte itself
  pub command_kind : (kind_of (command_in l) ≡ read_kind (byte_at l 0)) × (Known (byte_at l 0) → kind_of (command_in l) ≡ byte_at l 0)
  unfolding command_in put_in put_command retime_command kind_of read_kind
  command_kind = (read, λ h. read ∙ read_known (byte_at l 0) h)
    where
      as_read : Command → Type 0
      as_read c = kind_of c ≡ read_kind (byte_at l 0)

      read : as_read (command_in l)
      read =
          cond_elim as_read (eqb (byte_at l 0) 2) (put_in l) _ (λ e. sym (by_put 1 2 3 4 5 6 (byte_at l 0) (eqb-true _ 2 e)))
          (λ e.
          cond_elim as_read (eqb (byte_at l 0) 5) (retime_command (i32_at l 1)) _ (λ e. sym (by_retime 1 2 3 4 5 6 (byte_at l 0) (eqb-true _ 5 e)))
          (λ e. plain_read (byte_at l 0)))

  -- of a list that begins with a record: its first byte is the command's kind, and a known one
  pub command_known : 0 < record_size l → Known (kind_of (command_in l)) × (kind_of (command_in l) ≡ byte_at l 0)
  command_known h = let same = command_kind.1 (kind_known h) in (subst Known (sym same) (kind_known h), same)

-- ---- the parts of a list that payloads are read from

-- a part of a list, of a record that begins at `at`
record_part : (l : List ℕ) (at start end : ℕ) → start ≤ end → end ≤ length (drop at l) → take (at + end - (at + start)) (drop (at + start) l) ≡ drop start (take end (drop at l))
record_part l at start end h w =
    let e : at + end - (at + start) ≡ end - start = omega arith in
    (λ i. take (e i) (sym (drop-drop start at l) i)) ∙ take_drop (drop at l) start end h w

module _ (l : List ℕ) (at start end : ℕ) (found : 0 < record_size (drop at l)) (ends : end ≡ first_end (drop at l)) where
  within : end ≤ length (drop at l)
  within = omega (arith, ends, first_within (drop at l) found, record_within (drop at l))

  -- the first payload, or no byte
  pub payload_part : start ≡ min (head_size (byte_at (drop at l) 0)) end → take (at + end - (at + start)) (drop (at + start) l) ≡ payload_in (drop at l)
  unfolding payload_in
  payload_part e = record_part l at start end (omega arith) within ∙ go (dec_lt end head) ∙ ap (λ (n : ℕ). drop head (take n (drop at l))) ends
    where
      head : ℕ
      head = head_size (byte_at (drop at l) 0)

      go : Dec (end < head) → drop start (take end (drop at l)) ≡ drop head (take end (drop at l))
      go (yes h) =
          drop_of_length-le (take end (drop at l)) {i = start} (simp length-take (omega arith))
          ∙ sym (drop_of_length-le (take end (drop at l)) {i = head} (simp length-take (omega arith)))
      go (no h) = let f : start ≡ head = omega arith in ap (λ (n : ℕ). drop n (take end (drop at l))) f

  -- the second
  pub second_part : (size : ℕ) → size ≡ record_size (drop at l) → take (at + size - (at + end)) (drop (at + end) l) ≡ second_in (drop at l)
  unfolding second_in
  second_part size e =
      record_part l at end size (omega (arith, ends, e, first_within (drop at l) found)) (omega (arith, e, record_within (drop at l)))
      ∙ (λ i. drop (ends i) (take (e i) (drop at l)))

-- ---- the calls in turn

pub calls_none : (room : ℕ) (l : List ℕ) → next_size l room ≡ 0 → calls_in room l ≡ []
unfolding next_size calls_in
calls_none zero l e = refl
calls_none (suc room) l e = cond_true (eqb (record_size l) 0) [] _ (eq-eqb (record_size l) 0 e)

-- where one more record is played there is room for its answer
pub next_room : (room : ℕ) (l : List ℕ) → (next_size l room ≡ 0 → ⊥) → 1 ≤ room
unfolding next_size
next_room zero l h = absurd (h refl)
next_room (suc room) l h = omega arith

-- without room there is none
pub next_full : (room : ℕ) (l : List ℕ) → room ≡ 0 → next_size l room ≡ 0
unfolding next_size
next_full room l e = ap (next_size l) e

-- and with room, its size is that of the record
pub next_some : (room : ℕ) (l : List ℕ) → 1 ≤ room → next_size l room ≡ record_size l
unfolding next_size
next_some zero l h = let z : ⊥ = omega arith in absurd z
next_some (suc room) l h = refl

pub calls_next : (room : ℕ) (l : List ℕ) → (next_size l room ≡ 0 → ⊥) → calls_in room l ≡ call_in l ∷ calls_in (room - 1) (drop (next_size l room) l)
unfolding next_size calls_in
calls_next zero l h = absurd (h refl)
calls_next (suc room) l h =
    let e : room ≡ suc room - 1 = omega arith in
    cond_false (eqb (record_size l) 0) [] _ (ne_eqb (record_size l) 0 h) ∙ ap (λ (k : ℕ). call_in l ∷ calls_in k (drop (record_size l) l)) e

-- ---- arguments are values of their types

payload_bytes : (l : List ℕ) → Bytes l → Bytes (payload_in l)
unfolding payload_in
payload_bytes l b = bytes_drop (head_size (byte_at l 0)) (take (first_end l) l) (bytes_take (first_end l) l b)

second_bytes : (l : List ℕ) → Bytes l → Bytes (second_in l)
unfolding second_in
second_bytes l b = bytes_drop (first_end l) (take (record_size l) l) (bytes_take (record_size l) l b)

pub call_typed : (l : List ℕ) → Bytes l → Typed (call_in l)
unfolding call_in command_in put_in
call_typed l b =
    cond_elim typed (eqb (byte_at l 0) 2) (put_in l) _
    (λ e.
    asked_put_typed _ _ _ _ _ _ _ (payload_in l) (second_in l)
    (record {
      side_fits = u32_below l _ b;
      block_fits = u32_below l _ b;
      entry = record { x = i16_fits l _ b; y = i16_fits l _ b; sad = i32_fits l _ b; luma = b _ };
      gesture_fits = u32_below l _ b;
    }))
    (λ e. cond_elim typed (eqb (byte_at l 0) 5) (retime_command (i32_at l 1)) _ (λ e. asked_retime_typed _ (payload_in l) (second_in l) (i32_fits l _ b)) (λ e. asked_plain_typed _ (payload_in l) (second_in l) (payload_bytes l b) (second_bytes l b)))
  where
    typed : Command → Type 0
    typed c = Typed (commanded c (payload_in l) (second_in l))

pub calls_typed : (room : ℕ) (l : List ℕ) → Bytes l → AllTyped (calls_in room l)
unfolding calls_in AllCalls
calls_typed zero l b = tt
calls_typed (suc room) l b = go (eqb (record_size l) 0) (calls_typed room (drop (record_size l) l) (bytes_drop (record_size l) l b))
  where
    go : (t : Bool) → AllTyped (calls_in room (drop (record_size l) l)) → AllTyped (cond t [] (call_in l ∷ calls_in room (drop (record_size l) l)))
    go true h = tt
    go false h = (call_typed l b, h)
