-- `fast::row::put_lanes` meets its contract. The loop's invariant: the first k lanes are added, but for what is held.
use mathlib.Core.Path.{◌≡◌}
use Prim.Native.Nat.{◌+◌, ◌-◌, ◌≤◌, ◌<◌}
use lib.ListN.{length}
use Rattle.scatter.specs.Added.{added_run}
use Rattle.fast.specs.Held.{released}
use Rattle.fast.specs.Lanes.{lane_cells}
use Rattle.fast.proofs.row.put_lanes.Given as goal

abbrev pub invariant-loop-k : goal.invariant-loop-k
invariant-loop-k l =
    (l.k ≤ l.count)
    × (length l.grid ≡ length l.initial.grid)
    × (l.p.at + l.g.stride < length l.initial.grid)
    × (released l.g.stride l.p l.grid ≡ added_run (lane_cells l.g.shape l.column l.row l.tx l.ty) 0 l.k (released l.g.stride l.initial.p l.initial.grid))

abbrev pub decreases-loop-k : goal.decreases-loop-k
decreases-loop-k l = l.count - l.k
