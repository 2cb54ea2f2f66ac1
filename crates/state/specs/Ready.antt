-- What holds of an accepted call, as plain facts: what the functions that do the work require.
use Rattle.std.specs.Prelude.{ℕ, ◌+◌, ◌≤◌, ◌<◌, ◌≡◌, Bool, List, ℤ, length}
use Rattle.record.specs.declared.entry.BlockVector.{BlockVector}
use Rattle.record.specs.declared.shape.FieldShape.{FieldShape}
use Rattle.record.specs.Entries.{Holds}
use Rattle.record.specs.Shape.{blocks_of, set_size, grid_size, plane_size}
use Rattle.record.specs.Shape.Laws.{Accepted}
use Rattle.record.specs.Update.{payload_number}
use Rattle.scatter.specs.Geometry.{Timed}
use Rattle.maps.specs.Luma.{table_size}
use Rattle.history.specs.History.{depth_of, step_at}
use Rattle.state.specs.declared.session.Session.{Session}
use Rattle.state.specs.declared.session.Sizes.{Sizes}
use Rattle.state.specs.Numbers.{sizes_for}
use Rattle.state.specs.Buffers.{Buffers, sizes_of}
use Rattle.state.specs.Steps.{steps_of, run_start, slot_used}

-- each length is at most the other
pub record SizesAtMost (m z : Sizes) : Type 0 where
  pub backward : m.backward ≤ z.backward
  pub forward : m.forward ≤ z.forward
  pub table : m.table ≤ z.table
  pub grid : m.grid ≤ z.grid
  pub xs : m.xs ≤ z.xs
  pub ys : m.ys ≤ z.ys
  pub averages : m.averages ≤ z.averages
  pub map : m.map ≤ z.map
  pub history : m.history ≤ z.history

-- each buffer has its size
abbrev pub SessionRoom : FieldShape → Sizes → Type 0
SessionRoom s z = SizesAtMost (sizes_for s) z

-- a shape, a time and buffers that were accepted
pub record SessionReady (s : FieldShape) (T : ℤ) (z : Sizes) : Type 0 where
  pub accepted : Accepted s
  pub timed : Timed T
  pub room : SessionRoom s z

-- of an edit: the same without the history, which it doesn't touch
pub record EditReady (s : Session) (block : ℕ) (v : BlockVector) (b : Buffers) : Type 0 where
  pub accepted : Accepted s.shape
  pub timed : Timed s.time
  pub backward : set_size s.shape ≤ length b.backward
  pub forward : set_size s.shape ≤ length b.forward
  pub table : table_size ≤ length b.table
  pub grid : grid_size s.shape ≤ length b.grid
  pub xs : plane_size s.shape ≤ length b.xs
  pub ys : plane_size s.shape ≤ length b.ys
  pub averages : blocks_of s.shape ≤ length b.averages
  pub map : blocks_of s.shape ≤ length b.map
  pub within : block < blocks_of s.shape
  pub holds : Holds v

-- of what is patched on the shown side
pub record ShownReady (s : FieldShape) (T : ℤ) (block backward forward grid xs ys : ℕ) : Type 0 where
  pub accepted : Accepted s
  pub timed : Timed T
  pub within : block < blocks_of s
  pub backward_room : set_size s ≤ backward
  pub forward_room : set_size s ≤ forward
  pub grid_room : grid_size s ≤ grid
  pub x_room : plane_size s ≤ xs
  pub y_room : plane_size s ≤ ys

-- of what is patched on either side
pub record JudgedReady (s : FieldShape) (block backward forward table averages map : ℕ) : Type 0 where
  pub accepted : Accepted s
  pub within : block < blocks_of s
  pub backward_room : set_size s ≤ backward
  pub forward_room : set_size s ≤ forward
  pub table_room : table_size ≤ table
  pub averages_room : blocks_of s ≤ averages
  pub map_room : blocks_of s ≤ map

-- ---- the calls

pub record TakeReady (s : Session) (payload : List ℕ) (number : ℕ) (b : Buffers) : Type 0 where
  pub ready : SessionReady s.shape s.time (sizes_of b)
  pub number_is : number ≡ payload_number s.shape payload

-- both payloads are accepted
pub record PoolReady (s : Session) (p q : List ℕ) (b : Buffers) : Type 0 where
  pub ready : SessionReady s.shape s.time (sizes_of b)
  pub first_is : payload_number s.shape p ≡ 0
  pub second_is : payload_number s.shape q ≡ 0

pub record PutReady (s : Session) (block : ℕ) (v : BlockVector) (b : Buffers) : Type 0 where
  pub ready : SessionReady s.shape s.time (sizes_of b)
  pub within : block < blocks_of s.shape
  pub holds : Holds v
  pub counts : s.past + s.future ≤ depth_of (length b.history)

-- one step of undo (back) and redo: there is one, and its slot names a block
pub record StepReady (back : Bool) (s : Session) (b : Buffers) : Type 0 where
  pub ready : SessionReady s.shape s.time (sizes_of b)
  pub some : 1 ≤ steps_of back s
  pub within : (step_at b.history (slot_used back s)).block < blocks_of s.shape
  pub counts : s.past + s.future ≤ depth_of (length b.history)

-- n steps of a run: there are as many, and each of their slots names a block
pub record RunReady (back : Bool) (n : ℕ) (s : Session) (b : Buffers) : Type 0 where
  pub ready : SessionReady s.shape s.time (sizes_of b)
  pub few : n ≤ steps_of back s
  pub within : (j : ℕ) → run_start back s n ≤ j → j < run_start back s n + n → (step_at b.history j).block < blocks_of s.shape
  pub counts : s.past + s.future ≤ depth_of (length b.history)
