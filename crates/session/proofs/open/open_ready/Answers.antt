-- `session::open::open_ready` meets its contract: both sets zeroed, then all filled afresh.
use mathlib.Core.Path.{◌≡◌, ap, ◌∙◌}
use mathlib.Core.List.{List, []}
use Prim.Native.Nat.{ℕ}
use lib.ListN.{replicate}
use Rattle.arith.specs.Splice.{over}
use Rattle.scatter.specs.Geometry.Laws.{time_back, timed_read}
use Rattle.session.proofs.Made.{afresh}
use Rattle.state.specs.Buffers.{sizes_of}
use Rattle.state.specs.Lent.{held}
use Rattle.state.specs.Sessions.{new_session}
use Rattle.state.proofs.Laws.Ready.{ready_renewed}
use Rattle.session.proofs.open.open_ready.Goals as goal

pub rebuild-requires : goal.rebuild-requires
rebuild-requires c =
    let r = c.requires in
    rw c.new_session-begun.ensures (ready_renewed _ _ _ _ _ c.zero.auto.part c.zero-2.auto.part (record { accepted = r.accepted; timed = timed_read r.timed; room = r.room }))

-- a set as zero leaves it, with the size of the definition
zeroed : (n m : ℕ) (l r : List ℕ) → n ≡ m → r ≡ over (replicate n 0) l → r ≡ over (replicate m 0) l
zeroed n m l r e z = z ∙ ap (λ (k : ℕ). over (replicate k 0) l) e

pub returns-clause-same_references : goal.returns-clause-same_references
returns-clause-same_references c =
    let same = c.rebuild.ensures.same_references in
    record {
      backward = same.backward;
      forward = same.forward;
      table = same.table;
      grid = same.grid;
      xs = same.xs;
      ys = same.ys;
      averages = same.averages;
      map = same.map;
      sizes = same.sizes ∙ (λ i. record (sizes_of (held c.args.buffers.now [])) { backward = c.zero.auto.part i; forward = c.zero-2.auto.part i });
    }

pub returns-clause-made : goal.returns-clause-made
returns-clause-made c =
    let a = c.args in
    let n = c.set_size-size.ensures in
    afresh 0 _ _ _ (held a.buffers.now a.history.now) _ _ _ _ _
    (c.new_session-begun.ensures ∙ ap (new_session a.shape a.side a.limits) (time_back c.requires.timed))
    (zeroed _ _ a.buffers.now.backward.now _ n c.zero.ensures) (zeroed _ _ a.buffers.now.forward.now _ n c.zero-2.ensures) c.rebuild.ensures.rebuilt
