-- `buffers::rebuild::rebuild` meets its contract: each buffer is the one that was lent, as long as it was.
use mathlib.Core.Path.{refl}
use lib.ListN.{length}
use Rattle.buffers.proofs.rebuild.rebuild.Goals as goal

pub returns-clause-same_references : goal.returns-clause-same_references
returns-clause-same_references c =
    let b = c.args.buffers.now in
    let filled = c.refill.auto in
    record {
      backward = refl;
      forward = refl;
      table = refl;
      grid = refl;
      xs = refl;
      ys = refl;
      averages = refl;
      map = refl;
      sizes = λ i. record {
        backward = length b.backward.now;
        forward = length b.forward.now;
        table = length b.table.now;
        grid = filled.grid i;
        xs = filled.xs i;
        ys = filled.ys i;
        averages = filled.averages i;
        map = filled.map i;
        history = 0;
      };
    }
