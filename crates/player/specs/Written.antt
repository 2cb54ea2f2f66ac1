-- A list of calls written in bytes, by the format that stands at the head of specs/Records.
use Rattle.std.specs.Prelude.{List, [], ◌∷◌, ◌++◌, ℕ, ◌/◌, ◌%◌, ◌<◌, ℤ, length}
use Rattle.std.specs.Int.{w16, w32}
use Rattle.std.proofs.Common.{of_z}
use Rattle.record.specs.Bytes.{u32_bytes}
use Rattle.machine.specs.Call.{Call, AllCalls}
use Rattle.machine.specs.Call as C

-- the two and the four bytes of a signed number
unfoldable pub i16_bytes : ℤ → List ℕ
i16_bytes z = of_z w16 z % 256 ∷ of_z w16 z / 256 ∷ []

unfoldable pub i32_bytes : ℤ → List ℕ
i32_bytes z = u32_bytes (of_z w32 z)

-- the record of a call: its kind, and its arguments in their order
unfoldable pub record_of : Call → List ℕ
record_of (C.take payload) = 1 ∷ u32_bytes (length payload) ++ payload
record_of (C.put side block v gesture) =
    2 ∷ u32_bytes side ++ u32_bytes block ++ i16_bytes v.x ++ i16_bytes v.y ++ i32_bytes v.sad ++ v.luma ∷ u32_bytes gesture
record_of C.undo = 3 ∷ []
record_of C.redo = 4 ∷ []
record_of (C.retime T) = 5 ∷ i32_bytes T
record_of (C.pool p q) = 6 ∷ u32_bytes (length p) ++ u32_bytes (length q) ++ p ++ q

-- the records of a list, one behind the other
unfoldable pub bytes_of : List Call → List ℕ
bytes_of [] = []
bytes_of (x ∷ xs) = record_of x ++ bytes_of xs

-- what a record has room for: payloads whose lengths four bytes hold
unfoldable pub Writable : Call → Type 0
Writable (C.take payload) = length payload < 4294967296
Writable (C.put side block v gesture) = Unit {0}
Writable C.undo = Unit {0}
Writable C.redo = Unit {0}
Writable (C.retime T) = Unit {0}
Writable (C.pool p q) = (length p < 4294967296) × (length q < 4294967296)

abbrev pub AllWritable : List Call → Type 0
AllWritable xs = AllCalls Writable xs
