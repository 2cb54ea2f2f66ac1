-- What undo and redo differ in (paper 01, 'Session'; paper 02, request 2): `back` is true of undo, which uses the run of the latest past steps with one
-- gesture, and false of redo, which uses the run of the next future ones.
use Rattle.std.specs.Prelude.{Bool, cond, List, ℕ, ◌+◌, ◌-◌}
use Rattle.record.specs.declared.entry.BlockVector.{BlockVector}
use Rattle.history.specs.declared.Step.{Step}
use Rattle.runs.specs.Slots.{run_back, run_ahead}
use Rattle.state.specs.declared.session.Session.{Session}
use Rattle.state.specs.Sessions.{with_steps}

-- how many steps there are to use
abbrev pub steps_of : Bool → Session → ℕ
steps_of back s = cond back s.past s.future

-- the number where there is none
abbrev pub no_step_number : Bool → ℕ
no_step_number back = cond back 9 10

-- how many of them are used: those of the run, read from the slots
abbrev pub run_length : Bool → Session → List ℕ → ℕ
run_length back s history = cond back (run_back history s.past) (run_ahead history s.past s.future)

-- the lowest slot of a run of n: past steps come first, oldest first, then future ones, next redo first
abbrev pub run_start : Bool → Session → ℕ → ℕ
run_start back s n = cond back (s.past - n) s.past

-- ---- one step of the run

-- the slot of the step that is used
abbrev pub slot_used : Bool → Session → ℕ
slot_used back s = cond back (s.past - 1) s.past

-- the entry that its block gets: undo's is the old one, redo's the new one
abbrev pub entry_used : Bool → Step → BlockVector
entry_used back p = cond back p.old p.new

-- the session afterwards: undo's step is a future one, redo's a past one
unfoldable pub step_moved : Bool → Session → Session
step_moved back s = cond back (with_steps (s.past - 1) (s.future + 1) s) (with_steps (s.past + 1) (s.future - 1) s)
