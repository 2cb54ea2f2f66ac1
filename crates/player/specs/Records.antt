-- A list of calls in bytes, little endian: each record begins with its kind. 1 take: u32 length, then so many payload bytes. 2 put: side u32,
-- block u32, x i16, y i16, sad i32, luma u8, gesture u32. 3 undo. 4 redo. 5 retime: time i32. 6 pool: u32 length of its first payload, u32 length of
-- its second, then the bytes of both.
use Rattle.std.specs.Prelude.{cond, List, [], ◌∷◌, ℕ, zero, suc, ◌+◌, eqb, leb, length, take, drop, Option, Some, None}
use Rattle.record.specs.Bytes.{byte_at, u32_at, i16_at, i32_at}
use Rattle.machine.specs.Call.{Call}
use Rattle.command.specs.declared.Command.{Command}
use Rattle.command.specs.Commands.{by_kind, commanded, plain_command, put_command, retime_command}
pub mod Laws

-- a size that was found; none where it is 0
unfoldable pub found : ℕ → Option ℕ
found size = cond (eqb size 0) None (Some size)

-- a record of `size` bytes, where so many are there; else 0
unfoldable pub whole_size : ℕ → ℕ → ℕ
whole_size there size = cond (leb size there) size 0

-- a take's record: its kind, four bytes of length, the payload
unfoldable pub take_size : List ℕ → ℕ
take_size l = cond (leb 5 (length l)) (whole_size (length l) (5 + u32_at l 1)) 0

-- a pool's record: its kind, eight bytes of lengths, both payloads
unfoldable pub pool_size : List ℕ → ℕ
pool_size l = cond (leb 9 (length l)) (whole_size (length l) (9 + u32_at l 1 + u32_at l 5)) 0

-- the bytes of the record that a list begins with; 0 where its kind is unknown or it is cut short
unfoldable pub record_size : List ℕ → ℕ
record_size l =
    by_kind (byte_at l 0) (take_size l) (whole_size (length l) 22) 1 1 (whole_size (length l) 5) (cond (eqb (byte_at l 0) 6) (pool_size l) 0)

-- the same where there is room for an answer; else 0
unfoldable pub next_size : List ℕ → ℕ → ℕ
next_size l zero = 0
next_size l (suc room) = record_size l

-- its command: a put's with its arguments, a retime's with its time, any other by its kind alone
unfoldable pub put_in : List ℕ → Command
put_in l = put_command (u32_at l 1) (u32_at l 5) (i16_at l 9) (i16_at l 11) (i32_at l 13) (byte_at l 17) (u32_at l 18)

unfoldable pub command_in : List ℕ → Command
command_in l =
    cond (eqb (byte_at l 0) 2) (put_in l) (cond (eqb (byte_at l 0) 5) (retime_command (i32_at l 1)) (plain_command (byte_at l 0)))

-- what stands before a payload: of a pool its kind and two lengths, of a take its kind and length; other kinds have no payload, and there it is not used
unfoldable pub head_size : ℕ → ℕ
head_size kind = cond (eqb kind 6) 9 5

-- where the first payload ends: of a pool by its first length, else where the record ends
unfoldable pub first_end : List ℕ → ℕ
first_end l = cond (eqb (byte_at l 0) 6) (9 + u32_at l 1) (record_size l)

-- its bytes from the head to there, of a take the payload, of a pool the first; and what is left of it, of a pool the second
unfoldable pub payload_in : List ℕ → List ℕ
payload_in l = drop (head_size (byte_at l 0)) (take (first_end l) l)

unfoldable pub second_in : List ℕ → List ℕ
second_in l = drop (first_end l) (take (record_size l) l)

-- its call
unfoldable pub call_in : List ℕ → Call
call_in l = commanded (command_in l) (payload_in l) (second_in l)

-- the calls of a list, at most `room`: it ends where no whole record of a known kind begins
unfoldable pub calls_in : ℕ → List ℕ → List Call
calls_in zero l = []
calls_in (suc room) l = cond (eqb (record_size l) 0) [] (call_in l ∷ calls_in room (drop (record_size l) l))
