-- `session::run::run_ready` meets its contract. The loop's invariant: the steps that are left, from session and buffers as they are, give what the whole
-- run gives from those at first; they are ready; and every buffer is the one that was lent, as long as it was.
use mathlib.Core.Path.{◌≡◌, sym, subst}
use Prim.Native.Nat.{ℕ, ◌+◌, ◌-◌, ◌≤◌}
use native.Mathlib.Omega.{arith}
use lib.ListN.{length}
use Rattle.history.specs.History.Laws.{depth_within}
use Rattle.state.specs.Lent.{held}
use Rattle.state.specs.Ready.{RunReady}
use Rattle.state.proofs.Ended.{same_at_first, same_again}
use Rattle.state.proofs.Laws.Ready.{run_step}
use Rattle.session.proofs.Made.{Going, going_start, going_turn, going_end}
use Rattle.session.proofs.run.run_ready.Goals as goal

pub run_length-length-requires : goal.run_length-length-requires
run_length-length-requires c = omega (arith, depth_within (length c.args.history.now), c.requires.counts)

pub loop-init : goal.loop-init
loop-init c =
    let a = c.args in
    let b = held a.buffers.now a.history.now in
    let n = c.run_length-length.result in
    let all : n ≡ n - 0 = omega arith in (
      subst (λ (m : ℕ). Going a.back n a.s b m a.s b) all
          (going_start a.back n a.s b (subst (λ (m : ℕ). RunReady a.back m a.s b) (sym c.run_length-length.ensures) c.requires)),
      same_at_first,
    )

pub step_ready-current-requires : goal.step_ready-current-requires
step_ready-current-requires c =
    let l = c.loop in
    run_step c.args.back _ l.current _ (omega (arith, c.loop-test.true)) l.invariant.0.ready

pub loop-preserved : goal.loop-preserved
loop-preserved c =
    let a = c.args in
    let l = c.loop in
    let some : 1 ≤ c.run_length-length.result - l.counter = omega (arith, c.loop-test.true) in
    let less : c.run_length-length.result - l.counter - 1 ≡ c.run_length-length.result - (l.counter + 1) = omega arith in
    let stepped = c.step_ready-current.ensures in (
      subst (λ (n : ℕ). Going a.back c.run_length-length.result a.s (held a.buffers.now a.history.now) n c.step_ready-current.result (held c.step_ready-current.new.buffers a.history.now))
          less
          (going_turn a.back _ a.s (held a.buffers.now a.history.now) _ l.current _ _ _ some l.invariant.0 stepped.made stepped.same_sizes),
      same_again stepped.same_references l.invariant.1,
    )

pub returns-clause-made : goal.returns-clause-made
returns-clause-made c =
    let l = c.loop in
    going_end c.args.back _ c.args.s (held c.args.buffers.now c.args.history.now) _ l.current _ _ (omega arith) l.invariant.0 c.run_length-length.ensures
