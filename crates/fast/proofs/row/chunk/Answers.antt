-- `fast::row::chunk` meets its contract: its lanes are blocks of the row.
use mathlib.Core.Path.{ap, ◌∙◌}
use Prim.Native.Nat.{ℕ, ◌+◌}
use native.Mathlib.Omega.{arith}
use lib.IntN.{ℤ}
use Rattle.record.specs.Shape.{step_x_of, step_y_of}
use Rattle.fast.specs.declared.condition.Fast.{Fast}
use Rattle.fast.specs.Condition.Laws.{ready_across, ready_down, across_divisor, down_divisor}
use Rattle.fast.specs.Lanes.{across_at, down_at, Shifted, Moved}
use Rattle.fast.specs.Lanes.Laws.{axis_room, moved_of}
use Rattle.fast.specs.Row.Laws.{chunk_room, run_chunk}
use Rattle.fast.proofs.row.chunk.Goals as goal
use Rattle.fast.proofs.row.chunk.Lts as lts
use Rattle.fast.proofs.row.chunk.Reads as reads
use Rattle.fast.proofs.row.chunk.Tie as tie

module _ (s : lts.Start tie.the-claims reads.Pre reads.Post tie.handed_clauses) where
  -- the components of the blocks
  abbrev vx : ℕ → ℤ
  vx = across_at s.args.set.now s.args.start

  abbrev vy : ℕ → ℤ
  vy = down_at s.args.set.now s.args.start

  shifted : Shifted s.args.g s.args.f.shift
  shifted = let q = s.requires.0.quick in record { geometry = q.geometry; taken = q.taken; is = ap (λ (f : Fast). f.shift) q.is }

-- how far the blocks go on each axis, and the floors of that
module _ (c : lts.After-axis2 tie.the-claims reads.Pre reads.Post tie.handed_clauses) where
  abbrev start : lts.Start tie.the-claims reads.Pre reads.Post tie.handed_clauses
  start = c.before.before.before.before.before.before.before.before.before.before.before.before.before.before.before.before.before.before

  across : Moved start.args.g.shape start.args.g.time (step_x_of start.args.g.shape) (vx start) start.args.count c.axis.new.t c.axis.new.q
  across =
      let k = c.components in
      moved_of (vx start) start.args.count k.new.vx k.ensures.across start.requires.0.count_most _ _ _ _ _ _ (across_divisor start.args.g start.args.f start.requires.0.quick) c.axis.ensures

  down : Moved start.args.g.shape start.args.g.time (step_y_of start.args.g.shape) (vy start) start.args.count c.axis-2.new.t c.axis-2.new.q
  down =
      let k = c.components in
      moved_of (vy start) start.args.count k.new.vy k.ensures.down start.requires.0.count_most _ _ _ _ _ _ (down_divisor start.args.g start.args.f start.requires.0.quick) c.axis-2.ensures

pub components-requires : goal.components-requires
components-requires c =
    let s = c in
    let n = s.requires.0.count_most in
    (chunk_room s.args.g s.args.f s.args.start s.args.column s.args.row s.args.count _ _ s.requires.0, n, n)

pub axis-requires : goal.axis-requires
axis-requires c =
    let s = c in
    let k = c.components in
    axis_room (vx s.before.before.before.before.before.before.before.before.before.before.before) s.args.count k.new.vx k.ensures.across s.requires.0.count_most s.args.g s.args.f.shift s.args.f.across (shifted s.before.before.before.before.before.before.before.before.before.before.before) (ready_across s.args.g s.args.f s.requires.0.quick)
    (λ j. k.ensures.small.0 (s.args.start + j))

pub axis-requires-2 : goal.axis-requires-2
axis-requires-2 c =
    let s = c in
    let k = c.components in
    axis_room (vy s.before.before.before.before.before.before.before.before.before.before.before.before.before.before.before.before.before.before) s.args.count k.new.vy k.ensures.down s.requires.0.count_most s.args.g s.args.f.shift s.args.f.down (shifted s.before.before.before.before.before.before.before.before.before.before.before.before.before.before.before.before.before.before) (ready_down s.args.g s.args.f s.requires.0.quick)
    (λ j. k.ensures.small.1 (s.args.start + j))

pub put_lanes-requires : goal.put_lanes-requires
put_lanes-requires c =
    let s = c in
    let r = s.requires.0 in
    let a = r.quick.geometry.accepted in (
      record {
        geometry = r.quick.geometry;
        columns = omega (arith, r.columns, a.x.grid_range.most);
        row_most = omega (arith, r.row_below, a.y.grid_range.most);
        x = (across c.before.before.before.before.before.before.before.before).floors;
        y = (down c.before.before.before.before.before.before.before.before).floors;
      },
      r.grid_room,
      s.requires.1,
    )

pub returns : goal.returns
returns c =
    let s = c in
    let r = s.requires.0 in record {
      within = c.put_lanes.ensures.within;
      adds = c.put_lanes.ensures.adds
          ∙ run_chunk s.args.g.shape s.args.g.time s.args.set.now s.args.start s.args.row s.args.column s.args.count _ _ _ _ _
          r.start_is r.columns (across c.before.before.before.before.before.before.before.before.before.before) (down c.before.before.before.before.before.before.before.before.before.before);
    }
