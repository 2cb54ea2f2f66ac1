-- What each call answers and leaves, on any session and any buffers (paper 01, 'Session', with 'On buffers that are not as the last call left them ..',
-- and the memory column of 'Refused calls'; of the kept counts paper 02, request 1; of gestures request 2; of two payloads request 3).
use Rattle.std.specs.Prelude.{Bool, true, false, cond, ◌&&◌, ◌||◌, List, ℕ, zero, suc, eqb, ℤ, length, replicate}
use Rattle.arith.specs.Splice.{over}
use Rattle.record.specs.declared.entry.BlockVector.{BlockVector}
use Rattle.record.specs.declared.shape.FieldShape.{FieldShape}
use Rattle.record.specs.Entries.{entry_at, with_entry, set_of}
use Rattle.record.specs.Shape.{set_size}
use Rattle.record.specs.Update.{has_backward, backward_after, forward_after}
use Rattle.pooling.specs.Pool.{pooled_backward, pooled_forward}
use Rattle.scatter.specs.Grid.{grid_of}
use Rattle.scatter.specs.Added.{patched}
use Rattle.maps.specs.declared.map.SceneLimits.{SceneLimits}
use Rattle.maps.specs.Luma.{averages_made, average_patched}
use Rattle.maps.specs.Map.{map_made, map_patched}
use Rattle.maps.specs.Kept.{counts_from, score_from, adjusted}
use Rattle.maps.specs.Planes.{Planes, planes, planes_made, planes_patched}
use Rattle.history.specs.declared.Step.{Step}
use Rattle.history.specs.History.{depth_of, step_at, appended, cleared}
use Rattle.state.specs.declared.session.Session.{Session}
use Rattle.state.specs.Buffers.{Buffers, lent, sizes_of, State, state_of, Out, out, out_of}
use Rattle.state.specs.Numbers.{open_number, take_number, pool_number, put_number, run_number, retime_number}
use Rattle.state.specs.Sessions.{new_session, with_steps, with_step, with_time, with_kept, no_session}
use Rattle.state.specs.Steps.{run_length, slot_used, entry_used, step_moved}

-- ---- made afresh

-- the sets replaced, the lists emptied, and grid, planes, averages, map, the kept counts and the D slots made afresh from these sets; surplus stays
unfoldable pub rebuilt : Session → List ℕ → List ℕ → Buffers → State
rebuilt s backward forward b =
    let set : List ℕ = set_of s.side backward forward in
    let p : Planes = planes_made s.shape set (planes b.xs b.ys) in
    let averages : List ℕ = averages_made s.shape b.table backward forward b.averages in
    state_of (with_kept (counts_from s.shape s.limits b.table s.side backward forward) (with_steps 0 0 s))
    (lent backward forward b.table
    (over (grid_of s.shape s.time set) b.grid)
    p.xs p.ys averages
    (map_made s.shape s.limits set averages b.map)
    (cleared (depth_of (length b.history)) b.history))

-- ---- patched

-- the two sets, where an entry of one side becomes v
abbrev pub edited_backward : ℕ → ℕ → BlockVector → List ℕ → List ℕ
edited_backward side block v backward = cond (eqb side 1) (with_entry backward block v) backward

abbrev pub edited_forward : ℕ → ℕ → BlockVector → List ℕ → List ℕ
edited_forward side block v forward = cond (eqb side 1) forward (with_entry forward block v)

-- one entry of one side becomes v. On the shown side its products in the grid and its cells of the planes follow; on both sides its average, then its
-- map byte, and the kept counts by its block's score before and after, each from both sets and the luma table; all else stays
unfoldable pub edited : Session → ℕ → ℕ → BlockVector → Buffers → State
edited s side block v b =
    let backward : List ℕ = edited_backward side block v b.backward in
    let forward : List ℕ = edited_forward side block v b.forward in
    let set : List ℕ = set_of s.side backward forward in
    let old : BlockVector = entry_at (set_of side b.backward b.forward) block in
    let shown : Bool = eqb side s.side in
    let p : Planes = cond shown (planes_patched s.shape set block (planes b.xs b.ys)) (planes b.xs b.ys) in
    let averages : List ℕ = average_patched b.table backward forward block b.averages in
    let before : ℤ = score_from b.table s.side b.backward b.forward block in
    let after : ℤ = score_from b.table s.side backward forward block in
    state_of (with_kept (adjusted s.limits before after s.kept) s)
    (lent backward forward b.table
    (cond shown (patched s.shape s.time block old v b.grid) b.grid)
    p.xs p.ys averages
    (map_patched s.limits set averages block b.map)
    b.history)

-- the buffers with another grid, and with another history
unfoldable pub with_grid : List ℤ → Buffers → Buffers
with_grid grid b =
    lent b.backward b.forward b.table grid b.xs b.ys b.averages b.map b.history

unfoldable pub with_history : List ℕ → Buffers → Buffers
with_history history b =
    lent b.backward b.forward b.table b.grid b.xs b.ys b.averages b.map history

-- ---- the calls: done where the number is 0, else all as it was

unfoldable pub when : ℕ → Session → Buffers → Out → Out
when number s b done = cond (eqb number 0) done (out number s b)

-- open: sets zero, no steps, all filled afresh
abbrev pub open_done : FieldShape → ℕ → SceneLimits → ℤ → Buffers → Out
open_done shape side limits T b =
    let zeros : List ℕ = replicate (set_size shape) 0 in
    out_of 0 (rebuilt (new_session shape side limits T) (over zeros b.backward) (over zeros b.forward) b)

unfoldable pub open_of : FieldShape → ℕ → SceneLimits → ℤ → Buffers → Out
open_of shape side limits T b = when (open_number shape side T (sizes_of b)) no_session b (open_done shape side limits T b)

-- take: `update` of both sets; accepted, or refused by 6 with flag bit 0 set, the lists are emptied and all is filled afresh
abbrev pub renews : FieldShape → ℕ → Bool
renews s number = eqb number 0 || (eqb number 6 && has_backward s)

abbrev pub take_done : Session → List ℕ → ℕ → Buffers → Out
take_done s payload number b =
    out_of number
    (rebuilt s (backward_after s.shape payload number b.backward) (forward_after s.shape payload number b.forward) b)

unfoldable pub take_of : Session → List ℕ → Buffers → Out
take_of s payload b =
    let number : ℕ = take_number s payload (sizes_of b) in
    cond (renews s.shape number) (take_done s payload number b) (out number s b)

-- pool: each flagged set has of two payloads' entries those with the smaller sad, the lists are emptied and all is filled afresh; refused, by 6 too,
-- nothing is written (paper 02, request 3)
abbrev pub pool_done : Session → List ℕ → List ℕ → Buffers → Out
pool_done s p q b = out_of 0 (rebuilt s (pooled_backward s.shape p q b.backward) (pooled_forward s.shape p q b.forward) b)

unfoldable pub pool_of : Session → List ℕ → List ℕ → Buffers → Out
pool_of s p q b = when (pool_number s p q (sizes_of b)) s b (pool_done s p q b)

-- a put's entry, as its fields are given
abbrev pub entry_given : ℤ → ℤ → ℤ → ℕ → BlockVector
entry_given x y sad luma = record { x = x; y = y; sad = sad; luma = luma }

-- put: the entry stored, and its step with its gesture behind the past ones, the oldest dropped where there are D, every slot past it zero
abbrev pub put_done : Session → ℕ → ℕ → BlockVector → ℕ → Buffers → Out
put_done s side block v gesture b =
    let D : ℕ = depth_of (length b.history) in
    let p : Step = record { block = block; side = side; old = entry_at (set_of side b.backward b.forward) block; new = v; gesture = gesture } in
    let e : State = edited s side block v b in
    out 0 (with_step D e.session) (with_history (appended D s.past p b.history) e.buffers)

unfoldable pub put_of : Session → ℕ → ℕ → BlockVector → ℕ → Buffers → Out
put_of s side block v gesture b = when (put_number s side block v.sad (sizes_of b)) s b (put_done s side block v gesture b)

-- one step back (undo's) or forth (redo's): the step in the slot used gives one of its entries to its block; no slot is written
abbrev pub step_done : Bool → Session → Buffers → Out
step_done back s b =
    let p : Step = step_at b.history (slot_used back s) in
    let e : State = edited s p.side p.block (entry_used back p) b in
    out 0 (step_moved back e.session) e.buffers

-- n of them, one by one
unfoldable pub steps_done : Bool → ℕ → Session → Buffers → Out
steps_done back zero s b = out 0 s b
steps_done back (suc n) s b = let a : Out = step_done back s b in steps_done back n a.session a.after

-- undo (back) and redo: the steps of the run, the latest past one or the next future one first (paper 02, request 2)
abbrev pub run_done : Bool → Session → Buffers → Out
run_done back s b = steps_done back (run_length back s b.history) s b

unfoldable pub run_of : Bool → Session → Buffers → Out
run_of back s b = when (run_number back s b.history (sizes_of b)) s b (run_done back s b)

abbrev pub undo_of : Session → Buffers → Out
undo_of s b = run_of true s b

abbrev pub redo_of : Session → Buffers → Out
redo_of s b = run_of false s b

-- retime: the grid filled afresh, and nothing else
abbrev pub retime_done : Session → ℤ → Buffers → Out
retime_done s T b =
    out 0 (with_time T s) (with_grid (over (grid_of s.shape T (set_of s.side b.backward b.forward)) b.grid) b)

unfoldable pub retime_of : Session → ℤ → Buffers → Out
retime_of s T b = when (retime_number s T (sizes_of b)) s b (retime_done s T b)
