-- What open answers; what a refused pool leaves; what an edit on either side makes of the map and of the kept counts; what retime, undo and redo leave as it was, accepted or refused
-- (paper 01, 'Session'; paper 02, request 1).
use Rattle.std.specs.Prelude.{◌≡◌, Bool, true, false, cond, List, ℕ, zero, suc, ◌+◌, ◌-◌, eqb, ℤ}
use Rattle.std.proofs.Math.Path.{refl, ap}
use Rattle.std.proofs.Common.{sym, arith, eqb-true, ne_eqb}
use Rattle.arith.specs.Booleans.{cond_elim, cond_false}
use Rattle.record.specs.declared.entry.BlockVector.{BlockVector}
use Rattle.record.specs.declared.shape.FieldShape.{FieldShape}
use Rattle.record.specs.Entries.{set_of}
use Rattle.maps.specs.declared.map.SceneLimits.{SceneLimits}
use Rattle.maps.specs.Luma.{average_patched}
use Rattle.maps.specs.Map.{map_patched}
use Rattle.maps.specs.Kept.{score_from, adjusted}
use Rattle.state.specs.declared.session.Session.{Session}
use Rattle.state.specs.Buffers.{Buffers, lent, sizes_of, Out, out}
use Rattle.state.specs.Numbers.{open_number, pool_number, run_number, retime_number}
use Rattle.state.specs.Calls.{when, edited_backward, edited_forward, edited, with_grid, open_of, open_done, pool_of, pool_done, step_done, steps_done, run_of, run_done, retime_of, retime_done}
use Rattle.state.specs.Sessions.{with_steps, with_kept, no_session}
use Rattle.state.specs.Steps.{run_length, step_moved}

-- open answers its number
pub open_number_lem : (shape : FieldShape) (side : ℕ) (limits : SceneLimits) (T : ℤ) (b : Buffers) → (open_of shape side limits T b).number ≡ open_number shape side T (sizes_of b)
unfolding open_of when
open_number_lem shape side limits T b =
    let n : ℕ = open_number shape side T (sizes_of b) in
    cond_elim (λ (o : Out). o.number ≡ n) (eqb n 0) (open_done shape side limits T b) (out n no_session b) (λ e. sym (eqb-true n 0 e)) (λ e. refl)

-- a pool that is refused leaves session and buffers, by 6 with flag bit 0 set too (paper 02, request 3)
pub pool_refused : (s : Session) (p q : List ℕ) (b : Buffers) → (pool_number s p q (sizes_of b) ≡ 0 → ⊥) → pool_of s p q b ≡ out (pool_number s p q (sizes_of b)) s b
unfolding pool_of when
pool_refused s p q b h =
    let n : ℕ = pool_number s p q (sizes_of b) in
    cond_false (eqb n 0) (pool_done s p q b) (out n s b) (ne_eqb n 0 h)

-- an edit, on the hidden side too: the map byte is worked out anew, with the block's average from both new sets
pub hidden_map : (s : Session) (side block : ℕ) (v : BlockVector) (b : Buffers)
    → let backward : List ℕ = edited_backward side block v b.backward in
    let forward : List ℕ = edited_forward side block v b.forward in
    (edited s side block v b).buffers.map ≡ map_patched s.limits (set_of s.side backward forward) (average_patched b.table backward forward block b.averages) block b.map
unfolding edited
hidden_map s side block v b = refl

module _ (s : Session) (side block : ℕ) (v : BlockVector) (b : Buffers) where
  -- what an edit makes of the session, whatever averages and map are lent
  pub edited_unlent : (averages map : List ℕ)
      → (edited s side block v (lent b.backward b.forward b.table b.grid b.xs b.ys averages map b.history)).session
      ≡ (edited s side block v b).session
  unfolding edited
  edited_unlent averages map = refl

  -- on the hidden side too, the kept counts move by the block's score before and after; all else stays
  pub edited_session : let backward : List ℕ = edited_backward side block v b.backward in
      let forward : List ℕ = edited_forward side block v b.forward in
      (edited s side block v b).session
      ≡ with_kept
      (adjusted s.limits (score_from b.table s.side b.backward b.forward block) (score_from b.table s.side backward forward block) s.kept)
      s
  unfolding edited
  edited_session = refl

  -- an edit moves no step
  pub edited_past : (edited s side block v b).session.past ≡ s.past
  unfolding with_kept
  edited_past = ap (λ (t : Session). t.past) edited_session

  pub edited_future : (edited s side block v b).session.future ≡ s.future
  unfolding with_kept
  edited_future = ap (λ (t : Session). t.future) edited_session

-- what is the same done and refused is the same either way
when_same : {A : Type 0} (f : Out → A) (number : ℕ) (s : Session) (b : Buffers) (done : Out) → f done ≡ f (out number s b)
    → f (when number s b done) ≡ f (out number s b)
unfolding when
when_same f number s b done e = cond_elim (λ (o : Out). f o ≡ f (out number s b)) (eqb number 0) done (out number s b) (λ t. e) (λ t. refl)

-- retime: of the buffers the grid alone is another
pub retime_rest : (s : Session) (T : ℤ) (b : Buffers) (g : List ℤ) → with_grid g (retime_of s T b).after ≡ with_grid g b
unfolding retime_of with_grid
retime_rest s T b g = when_same (λ (o : Out). with_grid g o.after) (retime_number s T (sizes_of b)) s b (retime_done s T b) refl

-- undo and redo: the counts move by as many steps as are used
step_past : (back : Bool) (s : Session) (b : Buffers) → (step_done back s b).session.past ≡ cond back (s.past - 1) (s.past + 1)
unfolding step_moved with_steps
step_past true s b = ap (λ (n : ℕ). n - 1) (edited_past s _ _ _ b)
step_past false s b = ap (λ (n : ℕ). n + 1) (edited_past s _ _ _ b)

step_future : (back : Bool) (s : Session) (b : Buffers) → (step_done back s b).session.future ≡ cond back (s.future + 1) (s.future - 1)
unfolding step_moved with_steps
step_future true s b = ap (λ (n : ℕ). n + 1) (edited_future s _ _ _ b)
step_future false s b = ap (λ (n : ℕ). n - 1) (edited_future s _ _ _ b)

pub steps_past : (back : Bool) (n : ℕ) (s : Session) (b : Buffers) → (steps_done back n s b).session.past ≡ cond back (s.past - n) (s.past + n)
unfolding steps_done
steps_past true zero s b = omega arith
steps_past false zero s b = omega arith
steps_past true (suc n) s b = omega (arith, steps_past true n (step_done true s b).session (step_done true s b).after, step_past true s b)
steps_past false (suc n) s b = omega (arith, steps_past false n (step_done false s b).session (step_done false s b).after, step_past false s b)

pub steps_future : (back : Bool) (n : ℕ) (s : Session) (b : Buffers) → (steps_done back n s b).session.future ≡ cond back (s.future + n) (s.future - n)
unfolding steps_done
steps_future true zero s b = omega arith
steps_future false zero s b = omega arith
steps_future true (suc n) s b = omega (arith, steps_future true n (step_done true s b).session (step_done true s b).after, step_future true s b)
steps_future false (suc n) s b = omega (arith, steps_future false n (step_done false s b).session (step_done false s b).after, step_future false s b)

-- no slot is written, however many steps are used
steps_slots : (back : Bool) (n : ℕ) (s : Session) (b : Buffers) → (steps_done back n s b).after.history ≡ b.history
unfolding steps_done edited
steps_slots back zero s b = refl
steps_slots back (suc n) s b = steps_slots back n (step_done back s b).session (step_done back s b).after

pub run_slots : (back : Bool) (s : Session) (b : Buffers) → (run_of back s b).after.history ≡ b.history
unfolding run_of
run_slots back s b =
    when_same (λ (o : Out). o.after.history) (run_number back s b.history (sizes_of b)) s b (run_done back s b)
    (steps_slots back (run_length back s b.history) s b)
