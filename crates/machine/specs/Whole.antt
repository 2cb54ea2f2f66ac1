-- Demand 3 as one claim over the whole list: after an accepted open and every list of calls, however long, refused ones included, the answers,
-- the session and every buffer are those of the machine, fed the same calls. A part for each sentence.
use Rattle.std.specs.Prelude.{◌≡◌, List, ◌++◌, ℕ, ◌+◌, ◌*◌, ◌≤◌, ℤ, pos, length, take, replicate}
use Rattle.arith.specs.Splice.{over}
use Rattle.arith.specs.Wrap.{wrap32}
use Rattle.record.specs.Shape.{blocks_of, area_of, set_size, grid_size}
use Rattle.scatter.specs.Grid.{grid_of, sum_of}
use Rattle.maps.specs.Luma.{averages_made}
use Rattle.maps.specs.Map.{map_made}
use Rattle.maps.specs.Class.{quality_of}
use Rattle.maps.specs.Kept.{counts_from}
use Rattle.maps.specs.Planes.{planes, planes_made}
use Rattle.runs.specs.Runs.{runs_of}
use Rattle.state.specs.Buffers.{Out}
use Rattle.state.specs.Calls.{open_of}
use Rattle.state.specs.Kept.{kept_number, kept_class_of}
use Rattle.machine.specs.Call.{Call, undo, redo, AllTyped, Answered}
use Rattle.machine.specs.Machine.{Machine, opened, gestures_of, run}
use Rattle.machine.specs.Runs.{Parted}
use Rattle.machine.specs.Slots.{slots_laid}
use Rattle.machine.specs.Layout.{Opening, depth_for, surplus, shown_of}
use Rattle.machine.specs.Play.{Played, play}

-- open, and the list played on what it leaves
unfoldable pub played_from : Opening → ℤ → List Call → Played
played_from o T xs =
    let a : Out = open_of o.shape o.side o.limits T o.buffers in
    play xs a.session a.after

-- the machine, fed D, the shape and the same calls
unfoldable pub machine_after : Opening → ℤ → List Call → Machine
machine_after o T xs = (run (depth_for o) o.shape xs (opened o.shape T)).end

-- what is compared, of what the calls left (p) and the machine (m)
pub record Agrees (o : Opening) (T : ℤ) (xs : List Call) (p : Played) (m : Machine) : Type 0 where
  -- every answer in the list, and that no number but those of each call arises (4 to 10)
  pub answers : p.numbers ≡ (run (depth_for o) o.shape xs (opened o.shape T)).numbers
  pub arising : Answered xs p.numbers
  -- both vector sets; here and in every buffer below, what lies past the part that is made stays as it was (surplus)
  pub backward : p.buffers.backward ≡ over m.sets.backward o.buffers.backward
  pub forward : p.buffers.forward ≡ over m.sets.forward o.buffers.forward
  -- B and F have 8n bytes each: it is each set's 8n bytes that are compared
  pub backward_size : length m.sets.backward ≡ set_size o.shape
  pub forward_size : length m.sets.forward ≡ set_size o.shape
  -- shape, shown side and limits stay as they were given to open
  pub shape : p.session.shape ≡ o.shape
  pub side : p.session.side ≡ o.side
  pub limits : p.session.limits ≡ o.limits
  -- the time, and the two step counts
  pub time : p.session.time ≡ m.time
  pub past : p.session.past ≡ length m.past
  pub future : p.session.future ≡ length m.future
  -- the kept counts: those of the shown side's class, made afresh from the vectors (paper 02, request 1)
  pub kept : p.session.kept ≡ counts_from o.shape o.limits o.buffers.table o.side m.sets.backward m.sets.forward
  -- past and future together have at most D steps: the D slots hold them all
  pub steps : length m.past + length m.future ≤ depth_for o
  -- the D slots with the past and future steps, zeros after them
  pub slots : p.buffers.history ≡ slots_laid (depth_for o) m (surplus o)
  -- the grid: each cell, the trash cell too, as a plain scatter of the shown set at the machine's time makes it over zeros
  pub grid : p.buffers.grid ≡ over (grid_of o.shape m.time (shown_of o m)) o.buffers.grid
  -- nothing of a block's area is lost: modulo 2^32 all cells together are the area times n
  pub sum : wrap32 (sum_of (take (grid_size o.shape) p.buffers.grid)) ≡ wrap32 (pos (area_of o.shape * blocks_of o.shape))
  -- planes, luma averages and quality map are those of these vectors
  pub xs_plane : p.buffers.xs ≡ (planes_made o.shape (shown_of o m) (planes o.buffers.xs o.buffers.ys)).xs
  pub ys_plane : p.buffers.ys ≡ (planes_made o.shape (shown_of o m) (planes o.buffers.xs o.buffers.ys)).ys
  pub averages : p.buffers.averages ≡ averages_made o.shape o.buffers.table m.sets.backward m.sets.forward o.buffers.averages
  pub map : p.buffers.map ≡ map_made o.shape o.limits (shown_of o m) p.buffers.averages o.buffers.map
  -- the luma table is never written
  pub table : p.buffers.table ≡ o.buffers.table

-- the claim, after an accepted open. That arguments are values of their types is no burden on a host: every list of bytes meets it (player: `calls_typed`)
unfoldable pub Whole : Type 0
Whole =
    (o : Opening) (T : ℤ) (xs : List Call) → (open_of o.shape o.side o.limits T o.buffers).number ≡ 0 → AllTyped xs
    → Agrees o T xs (played_from o T xs) (machine_after o T xs)

-- how many undos take all of a machine's past steps back: one for each run of past; that they do is `UndoesAll`
unfoldable pub undos_of : Machine → ℕ
undos_of m = runs_of (gestures_of m.past)

-- k undos, and then as many redos
unfoldable pub undos_redos : ℕ → List Call
undos_redos k = replicate k undo ++ replicate k redo

-- as many undos as the machine (m) has past runs, then as many redos, on what the calls left (p): each of these calls is accepted, and session and
-- buffers end byte for byte where they began
unfoldable pub GivesBack : Machine → Played → Type 0
GivesBack m p =
    let k : ℕ = undos_of m in
    play (undos_redos k) p.session p.buffers ≡ record { numbers = replicate (k + k) 0; session = p.session; buffers = p.buffers }

-- its last sentence, as paper 02's request 2 counts it: the past runs that such a list leaves can all be undone and then redone
unfoldable pub Restored : Type 0
Restored =
    (o : Opening) (T : ℤ) (xs : List Call) → (open_of o.shape o.side o.limits T o.buffers).number ≡ 0 → AllTyped xs
    → GivesBack (machine_after o T xs) (played_from o T xs)

-- and these undos take all gestures back: no past step is left
unfoldable pub UndoesAll : Type 0
UndoesAll =
    (o : Opening) (T : ℤ) (xs : List Call) → (open_of o.shape o.side o.limits T o.buffers).number ≡ 0 → AllTyped xs
    → (played_from o T (xs ++ replicate (undos_of (machine_after o T xs)) undo)).session.past ≡ 0

-- what makes it so (paper 02, request 2): after every list past's last and future's first gesture differ, so that the run that an undo took back is the one
-- that the next redo brings back
unfoldable pub RunsParted : Type 0
RunsParted = (o : Opening) (T : ℤ) (xs : List Call) → Parted (machine_after o T xs)

-- the kept class of what the calls left (p) is accepted, and is the class that `quality` answers of these vectors and averages
unfoldable pub KeptClass : Opening → Played → Type 0
KeptClass o p =
    (kept_number p.session ≡ 0)
    × (kept_class_of p.session ≡ (quality_of o.shape o.side o.limits p.buffers.backward p.buffers.forward p.buffers.averages).answer)

-- paper 02, request 1: it is so after every such list
unfoldable pub ClassKept : Type 0
ClassKept =
    (o : Opening) (T : ℤ) (xs : List Call) → (open_of o.shape o.side o.limits T o.buffers).number ≡ 0 → AllTyped xs
    → KeptClass o (played_from o T xs)

-- demand 3, whole, as paper 02 changes it
pub record Demand3 : Type 0 where
  pub agrees : Whole
  pub gives_back : Restored
  pub undoes_all : UndoesAll
  pub runs_parted : RunsParted
  pub class_kept : ClassKept
