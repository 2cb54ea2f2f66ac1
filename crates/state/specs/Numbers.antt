-- The number of each call that is lent buffers, 0 for accepted: the conditions of paper 01's table under 'Refused calls', in its order, on any session and buffers.
use Rattle.std.specs.Prelude.{Bool, true, ◌&&◌, List, ℕ, zero, suc, ◌+◌, leb, ltb, ℤ, pos}
use Rattle.arith.specs.Integers.{in_range}
use Rattle.record.specs.declared.shape.FieldShape.{FieldShape}
use Rattle.record.specs.Checks.{side_number}
use Rattle.record.specs.Numbers.{first, unless}
use Rattle.record.specs.Shape.{shape_number, blocks_of, set_size, grid_size, plane_size}
use Rattle.record.specs.Update.{payload_number}
use Rattle.record.specs.Entries.{side_accepted}
use Rattle.pooling.specs.Pool.{both_number}
use Rattle.scatter.specs.Geometry.{time_accepted, time_number}
use Rattle.maps.specs.Luma.{table_size}
use Rattle.history.specs.declared.Step.{Step}
use Rattle.history.specs.History.{slot_size, depth_of, step_at}
use Rattle.state.specs.declared.session.Session.{Session}
use Rattle.state.specs.declared.session.Sizes.{Sizes}
use Rattle.state.specs.Steps.{steps_of, no_step_number, run_length, run_start}
pub mod Laws

-- ---- conditions

-- the size of each buffer: sets 8n bytes, table 511, grid S × (H + 2) + 1, planes W × H, averages and map n, history one slot
abbrev pub sizes_for : FieldShape → Sizes
sizes_for s =
    record {
      backward = set_size s;
      forward = set_size s;
      table = table_size;
      grid = grid_size s;
      xs = plane_size s;
      ys = plane_size s;
      averages = blocks_of s;
      map = blocks_of s;
      history = slot_size;
    }

-- 3: each of the nine buffers has its size
unfoldable pub sized : FieldShape → Sizes → Bool
sized s z =
    let m : Sizes = sizes_for s in
    leb m.backward z.backward
    && leb m.forward z.forward
    && leb m.table z.table
    && leb m.grid z.grid
    && leb m.xs z.xs
    && leb m.ys z.ys
    && leb m.averages z.averages
    && leb m.map z.map
    && leb m.history z.history

-- 8, beside the side: a block is below n
unfoldable pub block_good : FieldShape → ℕ → Bool
block_good s block = ltb block (blocks_of s)

-- 7, beside the time: a put's sad is 0 to 16,777,215
unfoldable pub sad_good : ℤ → Bool
sad_good sad = in_range (pos 0) (pos 16777215) sad

-- 11: the step counts sum to at most D
unfoldable pub counts_good : Session → Sizes → Bool
counts_good s z = leb (s.past + s.future) (depth_of z.history)

-- 8 of a put, 11 of a slot: a side, and a block of the shape
unfoldable pub place_good : FieldShape → ℕ → ℕ → Bool
place_good s side block = side_accepted side && block_good s block

-- 11: a slot's side and block are ones of this shape
unfoldable pub slot_good : FieldShape → Step → Bool
slot_good s p = place_good s p.side p.block

-- those of n slots, from slot k up
unfoldable pub slots_good : FieldShape → List ℕ → ℕ → ℕ → Bool
slots_good s history k zero = true
slots_good s history k (suc n) = slot_good s (step_at history k) && slots_good s history (suc k) n

-- ---- the calls

-- 2, 3, 8: the shape, the buffers and the shown side
unfoldable pub shown_number : FieldShape → ℕ → Sizes → ℕ
shown_number s side z = first (shape_number s) (first (unless (sized s z) 3) (side_number side))

-- what every session call checks of the shape, buffers, side and time that it carries
unfoldable pub carried_number : FieldShape → ℕ → ℤ → Sizes → ℕ
carried_number s side T z = first (shown_number s side z) (time_number T)

-- open: the shape, side and time given
unfoldable pub open_number : FieldShape → ℕ → ℤ → Sizes → ℕ
open_number s side T z = carried_number s side T z

unfoldable pub take_number : Session → List ℕ → Sizes → ℕ
take_number s payload z = first (carried_number s.shape s.side s.time z) (payload_number s.shape payload)

-- pool: 4, 5 or 6 of the first payload, then of the second (paper 02, request 3)
unfoldable pub pool_number : Session → List ℕ → List ℕ → Sizes → ℕ
pool_number s p q z = first (carried_number s.shape s.side s.time z) (both_number s.shape p q)

-- put: 8 comes before 7, so that its own side and block are checked before the time that the session carries
unfoldable pub put_number : Session → ℕ → ℕ → ℤ → Sizes → ℕ
put_number s side block sad z =
    first (shown_number s.shape s.side z)
    (first (unless (place_good s.shape side block) 8)
    (first (unless (time_accepted s.time && sad_good sad) 7) (unless (counts_good s z) 11)))

-- undo and redo before any slot is read: the number of no step, then 11 for the counts
unfoldable pub steps_number : Bool → Session → Sizes → ℕ
steps_number back s z =
    first (carried_number s.shape s.side s.time z)
    (first (unless (ltb 0 (steps_of back s)) (no_step_number back)) (unless (counts_good s z) 11))

-- then 11 for every slot of the run (paper 02, request 2)
unfoldable pub run_number : Bool → Session → List ℕ → Sizes → ℕ
run_number back s history z =
    let n : ℕ = run_length back s history in
    first (steps_number back s z) (unless (slots_good s.shape history (run_start back s n) n) 11)

unfoldable pub retime_number : Session → ℤ → Sizes → ℕ
retime_number s T z = first (carried_number s.shape s.side s.time z) (time_number T)
