-- A list of calls written in bytes and read again: each record has the size that it was written with and asks for its call, so that the list comes back,
-- whatever stands behind it; and what is written are bytes.
use Rattle.std.specs.Prelude.{◌≡◌, eqb, leb, ℤ}
use Rattle.std.proofs.Math.Path.{refl, ap}
use Rattle.std.proofs.Common.{sym, ◌∙◌, zero-add, le-leb, ne_eqb, SFits, to_z, of_z}
use mathlib.Core.List.{List, [], ◌∷◌, ◌++◌, append_assoc, append-nil}
use Prim.Native.Nat.{ℕ, zero, suc, ◌+◌, ◌*◌, ◌/◌, ◌%◌, ◌-◌, ◌≤◌, ◌<◌}
use native.Mathlib.Omega.{arith}
use Rattle.std.proofs.Math.ListN.{length, take, drop, length-append}
use Rattle.std.proofs.Math.Seq.{take-append_seam, drop-append_seam}
use Rattle.std.specs.Int.{w16, w32}
use Rattle.std.proofs.Math.Facts.{Fits-of_z}
use Rattle.arith.specs.Booleans.{cond_true, cond_false}
use Rattle.arith.specs.Signed.{back}
use Rattle.record.specs.declared.entry.BlockVector.{BlockVector}
use Rattle.record.specs.Bytes.{Bytes, u32_at, u32_bytes, u16_at, i16_at, i32_at}
use Rattle.record.specs.Bytes.Laws.{bytes_nil, bytes_cons, one_byte, bytes_append, u32_bytes_lem, two_again, four_again}
use Rattle.machine.specs.Call.{Call, PutTyped, Typed, AllCalls, AllTyped}
use Rattle.machine.specs.Call as C
use Rattle.command.specs.declared.Command.{Command}
use Rattle.command.specs.Commands.{by_kind, commanded, put_command, retime_command}
use Rattle.command.specs.Commands.Laws.{asks_take, asks_put, asks_undo, asks_redo, asks_retime, asks_pool}
use Rattle.player.specs.Records.{take_size, pool_size, record_size, next_size, put_in, head_size, first_end, payload_in, second_in, call_in, calls_in}
use Rattle.player.specs.Records.Laws.{whole_there, end_pool, command_put, command_retime, command_plain, calls_none}
use Rattle.player.specs.Written.{i16_bytes, i32_bytes, record_of, bytes_of, Writable, AllWritable}

-- ---- one record

-- a signed number from its bytes
i16_again : (z : ℤ) → SFits w16 z → to_z w16 (of_z w16 z % 256 + 256 * (of_z w16 z / 256)) ≡ z
i16_again z f = ap (to_z w16) (two_again (of_z w16 z)) ∙ back w16 f

i32_again : (z : ℤ) → SFits w32 z
    → to_z w32 (of_z w32 z % 256 + 256 * (of_z w32 z / 256 % 256) + 65536 * (of_z w32 z / 65536 % 256) + 16777216 * (of_z w32 z / 16777216)) ≡ z
i32_again z f = ap (to_z w32) (four_again (of_z w32 z)) ∙ back w32 f

module _ (rest : List ℕ) where
  -- the length that stands in a take's record
  length_again : (payload : List ℕ) → u32_at (record_of (C.take payload) ++ rest) 1 ≡ length payload
  unfolding record_of u32_bytes u32_at
  length_again payload = four_again (length payload)

  -- and the two in a pool's
  first_again : (p q : List ℕ) → u32_at (record_of (C.pool p q) ++ rest) 1 ≡ length p
  unfolding record_of u32_bytes u32_at
  first_again p q = four_again (length p)

  second_again : (p q : List ℕ) → u32_at (record_of (C.pool p q) ++ rest) 5 ≡ length q
  unfolding record_of u32_bytes u32_at
  second_again p q = four_again (length q)

  size_again : (x : Call) → record_size (record_of x ++ rest) ≡ length (record_of x)
  unfolding record_of record_size by_kind take_size pool_size u32_bytes i16_bytes i32_bytes
  size_again (C.take payload) =
      let l : List ℕ = record_of (C.take payload) ++ rest in
      let n : length l ≡ 5 + (length payload + length rest) = omega (arith, length-append payload rest) in
      let e : 5 + length payload ≡ length (record_of (C.take payload)) = omega arith in
      cond_true (leb 5 (length l)) _ _ (le-leb 5 (length l) (omega (arith, n)))
      ∙ whole_there (length l) (5 + u32_at l 1) (omega (arith, n, length_again payload))
      ∙ ap (λ (k : ℕ). 5 + k) (length_again payload)
      ∙ e
  size_again (C.put side block v gesture) = whole_there (length (record_of (C.put side block v gesture) ++ rest)) 22 (omega arith)
  size_again C.undo = refl
  size_again C.redo = refl
  size_again (C.retime T) = whole_there (length (record_of (C.retime T) ++ rest)) 5 (omega arith)
  size_again (C.pool p q) =
      let l : List ℕ = record_of (C.pool p q) ++ rest in
      let n : length l ≡ 9 + (length (p ++ q) + length rest) = omega (arith, length-append (p ++ q) rest) in
      let e : 9 + length p + length q ≡ length (record_of (C.pool p q)) = omega (arith, length-append p q) in
      cond_true (leb 9 (length l)) _ _ (le-leb 9 (length l) (omega (arith, n)))
      ∙ whole_there (length l) (9 + u32_at l 1 + u32_at l 5) (omega (arith, n, first_again p q, second_again p q, length-append p q))
      ∙ (λ i. 9 + first_again p q i + second_again p q i)
      ∙ e

  payload_again : (payload : List ℕ) → payload_in (record_of (C.take payload) ++ rest) ≡ payload
  unfolding payload_in head_size first_end record_of u32_bytes
  payload_again payload =
      ap (drop 5)
      (ap (λ (n : ℕ). take n (record_of (C.take payload) ++ rest)) (size_again (C.take payload)) ∙ take-append_seam (record_of (C.take payload)) rest)

  -- a pool's record up to the end of its first payload, and the rest of it
  front : List ℕ → List ℕ → List ℕ
  front p q = 6 ∷ u32_bytes (length p) ++ u32_bytes (length q) ++ p

  parted : (p q : List ℕ) → record_of (C.pool p q) ≡ front p q ++ q
  unfolding front record_of u32_bytes
  parted p q = refl

  end_again : (p q : List ℕ) → first_end (record_of (C.pool p q) ++ rest) ≡ length (front p q)
  unfolding front u32_bytes record_of
  end_again p q = end_pool (record_of (C.pool p q) ++ rest) refl ∙ ap (λ (n : ℕ). 9 + n) (first_again p q) ∙ omega arith

  pooled_again : (p q : List ℕ) → (payload_in (record_of (C.pool p q) ++ rest) ≡ p) × (second_in (record_of (C.pool p q) ++ rest) ≡ q)
  unfolding payload_in second_in head_size front record_of u32_bytes
  pooled_again p q =
      let l : List ℕ = record_of (C.pool p q) ++ rest in
      let whole : l ≡ front p q ++ (q ++ rest) = append_assoc (front p q) q rest in (
        ap (drop 9) (ap (λ (n : ℕ). take n l) (end_again p q) ∙ ap (take (length (front p q))) whole ∙ take-append_seam (front p q) (q ++ rest)),
        (λ i. drop (end_again p q i) (take (size_again (C.pool p q) i) l))
            ∙ ap (drop (length (front p q))) (take-append_seam (record_of (C.pool p q)) rest ∙ parted p q)
            ∙ drop-append_seam (front p q) q,
      )

  put_again : (side block : ℕ) (v : BlockVector) (gesture : ℕ) → PutTyped side block v gesture
      → put_in (record_of (C.put side block v gesture) ++ rest) ≡ put_command side block v.x v.y v.sad v.luma gesture
  unfolding put_in record_of u32_bytes i16_bytes i32_bytes u32_at i16_at u16_at i32_at
  put_again side block v gesture t =
      λ i.
      put_command (four_again side i) (four_again block i) (i16_again v.x t.entry.x i) (i16_again v.y t.entry.y i)
      (i32_again v.sad t.entry.sad i) v.luma (four_again gesture i)

  time_again : (T : ℤ) → SFits w32 T → i32_at (record_of (C.retime T) ++ rest) 1 ≡ T
  unfolding record_of i32_bytes u32_bytes i32_at u32_at
  time_again T f = i32_again T f

  call_again : (x : Call) → Typed x → call_in (record_of x ++ rest) ≡ x
  unfolding call_in record_of Typed
  call_again (C.take payload) t =
      let l : List ℕ = record_of (C.take payload) ++ rest in
      (λ i. commanded (command_plain l (λ e. omega arith) (λ e. omega arith) i) (payload_again payload i) (second_in l)) ∙ asks_take payload (second_in l)
  call_again (C.put side block v gesture) t =
      let l : List ℕ = record_of (C.put side block v gesture) ++ rest in
      ap (λ (c : Command). commanded c (payload_in l) (second_in l)) (command_put l refl ∙ put_again side block v gesture t) ∙ asks_put _ _ _ _ _ _ _ (payload_in l) (second_in l)
  call_again C.undo t =
      let l : List ℕ = record_of C.undo ++ rest in
      ap (λ (c : Command). commanded c (payload_in l) (second_in l)) (command_plain l (λ e. omega arith) (λ e. omega arith)) ∙ asks_undo (payload_in l) (second_in l)
  call_again C.redo t =
      let l : List ℕ = record_of C.redo ++ rest in
      ap (λ (c : Command). commanded c (payload_in l) (second_in l)) (command_plain l (λ e. omega arith) (λ e. omega arith)) ∙ asks_redo (payload_in l) (second_in l)
  call_again (C.retime T) t =
      let l : List ℕ = record_of (C.retime T) ++ rest in
      ap (λ (c : Command). commanded c (payload_in l) (second_in l)) (command_retime l refl ∙ ap retime_command (time_again T t)) ∙ asks_retime T (payload_in l) (second_in l)
  call_again (C.pool p q) t =
      let l : List ℕ = record_of (C.pool p q) ++ rest in
      (λ i. commanded (command_plain l (λ e. omega arith) (λ e. omega arith) i) ((pooled_again p q).0 i) ((pooled_again p q).1 i)) ∙ asks_pool p q

-- ---- a list of records

some_bytes : (x : Call) → length (record_of x) ≡ 0 → ⊥
unfolding record_of
some_bytes (C.take payload) e = omega arith
some_bytes (C.put side block v gesture) e = omega arith
some_bytes C.undo e = omega arith
some_bytes C.redo e = omega arith
some_bytes (C.retime T) e = omega arith
some_bytes (C.pool p q) e = omega arith

-- the calls of a list's bytes are the list, and then those of what stands behind it
pub calls_of_bytes : (xs : List Call) (more : ℕ) (rest : List ℕ) → AllTyped xs → calls_in (length xs + more) (bytes_of xs ++ rest) ≡ xs ++ calls_in more rest
unfolding bytes_of AllCalls calls_in
calls_of_bytes [] more rest t = ap (λ (n : ℕ). calls_in n rest) (zero-add more)
calls_of_bytes (x ∷ xs) more rest t =
    let r : List ℕ = bytes_of xs ++ rest in
    let l : List ℕ = record_of x ++ r in
    let n : suc (length xs) + more ≡ suc (length xs + more) = omega arith in
    (λ i. calls_in (n i) (append_assoc (record_of x) (bytes_of xs) rest i))
    ∙ cond_false (eqb (record_size l) 0) [] _ (ne_eqb (record_size l) 0 (λ z. some_bytes x (sym (size_again r x) ∙ z)))
    ∙ (λ i. call_again r x t.0 i ∷ calls_in (length xs + more) ((ap (λ (k : ℕ). drop k l) (size_again r x) ∙ drop-append_seam (record_of x) r) i))
    ∙ ap (λ (ys : List Call). x ∷ ys) (calls_of_bytes xs more rest t.1)

-- with room for just these calls, whatever stands behind them
pub calls_again : (xs : List Call) (rest : List ℕ) → AllTyped xs → calls_in (length xs) (bytes_of xs ++ rest) ≡ xs
unfolding calls_in
calls_again xs rest t =
    let e : length xs ≡ length xs + 0 = omega arith in
    ap (λ (n : ℕ). calls_in n (bytes_of xs ++ rest)) e ∙ calls_of_bytes xs 0 rest t ∙ append-nil xs

-- and with more room, where no record begins behind them
pub calls_alone : (xs : List Call) (room : ℕ) (rest : List ℕ) → AllTyped xs → length xs ≤ room → record_size rest ≡ 0 → calls_in room (bytes_of xs ++ rest) ≡ xs
unfolding next_size
calls_alone xs room rest t h z =
    let more : ℕ = room - length xs in
    let e : room ≡ length xs + more = omega arith in
    ap (λ (n : ℕ). calls_in n (bytes_of xs ++ rest)) e
    ∙ calls_of_bytes xs more rest t
    ∙ ap (λ (ys : List Call). xs ++ ys) (calls_none more rest (none more))
    ∙ append-nil xs
  where
    none : (more : ℕ) → next_size rest more ≡ 0
    none zero = refl
    none (suc more) = z

-- ---- what is written are bytes

i16_bytes_lem : (z : ℤ) → SFits w16 z → Bytes (i16_bytes z)
unfolding i16_bytes
i16_bytes_lem z f =
    let h : of_z w16 z < 65536 = (Fits-of_z f).fits in
    let a : of_z w16 z % 256 < 256 = omega arith in
    bytes_cons (of_z w16 z % 256) (of_z w16 z / 256 ∷ []) a (one_byte (of_z w16 z / 256) (omega arith))

i32_bytes_lem : (z : ℤ) → SFits w32 z → Bytes (i32_bytes z)
unfolding i32_bytes
i32_bytes_lem z f = u32_bytes_lem (of_z w32 z) (Fits-of_z f).fits

record_bytes : (x : Call) → Typed x → Writable x → Bytes (record_of x)
unfolding record_of u32_bytes i16_bytes i32_bytes Typed Writable
record_bytes (C.take payload) t w =
    bytes_cons 1 (u32_bytes (length payload) ++ payload) (omega arith) (bytes_append (u32_bytes (length payload)) payload (u32_bytes_lem (length payload) w) t)
record_bytes (C.put side block v gesture) t w =
    let from-luma : List ℕ = v.luma ∷ u32_bytes gesture in
    let from-sad : List ℕ = i32_bytes v.sad ++ from-luma in
    let from-y : List ℕ = i16_bytes v.y ++ from-sad in
    let from-x : List ℕ = i16_bytes v.x ++ from-y in
    let from_block : List ℕ = u32_bytes block ++ from-x in
    bytes_cons 2 (u32_bytes side ++ from_block) (omega arith)
    (bytes_append (u32_bytes side) from_block (u32_bytes_lem side t.side_fits)
    (bytes_append (u32_bytes block) from-x (u32_bytes_lem block t.block_fits)
    (bytes_append (i16_bytes v.x) from-y (i16_bytes_lem v.x t.entry.x)
    (bytes_append (i16_bytes v.y) from-sad (i16_bytes_lem v.y t.entry.y)
    (bytes_append (i32_bytes v.sad) from-luma (i32_bytes_lem v.sad t.entry.sad)
    (bytes_cons v.luma (u32_bytes gesture) t.entry.luma (u32_bytes_lem gesture t.gesture_fits)))))))
record_bytes C.undo t w = one_byte 3 (omega arith)
record_bytes C.redo t w = one_byte 4 (omega arith)
record_bytes (C.retime T) t w = bytes_cons 5 (i32_bytes T) (omega arith) (i32_bytes_lem T t)
record_bytes (C.pool p q) t w =
    let from_second : List ℕ = u32_bytes (length q) ++ p ++ q in
    bytes_cons 6 (u32_bytes (length p) ++ from_second) (omega arith)
    (bytes_append (u32_bytes (length p)) from_second (u32_bytes_lem (length p) w.0)
    (bytes_append (u32_bytes (length q)) (p ++ q) (u32_bytes_lem (length q) w.1) (bytes_append p q t.0 t.1)))

pub written_bytes : (xs : List Call) → AllTyped xs → AllWritable xs → Bytes (bytes_of xs)
unfolding bytes_of AllCalls
written_bytes [] t w = bytes_nil
written_bytes (x ∷ xs) t w = bytes_append (record_of x) (bytes_of xs) (record_bytes x t.0 w.0) (written_bytes xs t.1 w.1)
