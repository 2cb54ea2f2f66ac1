-- `unit::data::sizes_for` meets its contract: each size is that of the shape.
use Rattle.maps.specs.Luma.{table_size}
use Rattle.history.specs.History.{slot_size}
use Rattle.unit.proofs.data.sizes_for.Goals as goal

pub returns : goal.returns
returns c =
    let set = c.set_size-set.ensures in
    let plane = c.plane_size-plane.ensures in
    let n = c.blocks-n.ensures in
    λ i. record {
      backward = set i;
      forward = set i;
      table = table_size;
      grid = c.grid_size.ensures i;
      xs = plane i;
      ys = plane i;
      averages = n i;
      map = n i;
      history = slot_size;
    }
