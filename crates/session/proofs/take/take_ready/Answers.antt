-- `session::take::take_ready` meets its contract: both sets renewed, then all filled afresh.
use mathlib.Core.Path.{refl, ◌∙◌}
use mathlib.Core.List.{[]}
use Rattle.record.specs.Refusals.{number_of}
use Rattle.state.specs.Buffers.{sizes_of}
use Rattle.state.specs.Lent.{held}
use Rattle.session.proofs.Made.{afresh}
use Rattle.state.proofs.Laws.Ready.{ready_renewed}
use Rattle.session.proofs.take.take_ready.Goals as goal

pub rebuild-requires : goal.rebuild-requires
rebuild-requires c = ready_renewed _ _ _ _ _ c.take_backward.auto.backward c.take_forward.auto.forward c.requires.ready

pub returns-clause-same_references : goal.returns-clause-same_references
returns-clause-same_references c =
    let same = c.rebuild.ensures.same_references in
    record {
      backward = same.backward;
      forward = same.forward;
      table = same.table;
      grid = same.grid;
      xs = same.xs;
      ys = same.ys;
      averages = same.averages;
      map = same.map;
      sizes = same.sizes ∙ (λ i. record (sizes_of (held c.args.buffers.now [])) { backward = c.take_backward.auto.backward i; forward = c.take_forward.auto.forward i });
    }

pub returns-clause-made : goal.returns-clause-made
returns-clause-made c =
    let a = c.args in
    afresh (number_of a.outcome) a.s a.s _ (held a.buffers.now a.history.now) _ _ _ _ _ refl c.take_backward.ensures c.take_forward.ensures c.rebuild.ensures.rebuilt
