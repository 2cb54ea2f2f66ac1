-- `session::pool::pool_ready` meets its contract: both sets pooled, then all filled afresh.
use mathlib.Core.Path.{refl, ◌∙◌}
use mathlib.Core.List.{[]}
use Rattle.state.specs.Buffers.{sizes_of}
use Rattle.state.specs.Lent.{held}
use Rattle.session.proofs.Made.{afresh}
use Rattle.state.proofs.Laws.Ready.{ready_renewed}
use Rattle.session.proofs.pool.pool_ready.Goals as goal

pub rebuild-requires : goal.rebuild-requires
rebuild-requires c = ready_renewed _ _ _ _ _ c.pool_sets.auto.backward c.pool_sets.auto.forward c.requires.ready

pub returns-clause-same_references : goal.returns-clause-same_references
returns-clause-same_references c =
    let same = c.rebuild.ensures.same_references in
    record {
      backward = same.backward;
      forward = same.forward;
      table = same.table;
      grid = same.grid;
      xs = same.xs;
      ys = same.ys;
      averages = same.averages;
      map = same.map;
      sizes = same.sizes ∙ (λ i. record (sizes_of (held c.args.buffers.now [])) { backward = c.pool_sets.auto.backward i; forward = c.pool_sets.auto.forward i });
    }

pub returns-clause-made : goal.returns-clause-made
returns-clause-made c =
    let a = c.args in
    afresh 0 a.s a.s _ (held a.buffers.now a.history.now) _ _ _ _ _ refl c.pool_sets.ensures.0 c.pool_sets.ensures.1 c.rebuild.ensures.rebuilt
