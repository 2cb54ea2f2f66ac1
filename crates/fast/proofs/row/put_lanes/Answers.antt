-- `fast::row::put_lanes` meets its contract. The loop's invariant: the first k lanes are added, but for what is held.
use mathlib.Core.Path.{◌≡◌, refl, sym, ap, ◌∙◌, subst}
use Prim.Native.Nat.{ℕ, ◌+◌, ◌≤◌, ◌<◌}
use native.Mathlib.Omega.{arith}
use lib.IntN.{pos}
use lib.ListN.{get_or}
use mir.Syntax.{w32}
use mir.Val.{to_z, of_z}
use Rattle.arith.specs.Signed.{back}
use Rattle.record.specs.Shape.{grid_size}
use Rattle.scatter.specs.Cells.{cells_from}
use Rattle.scatter.specs.Added.{added, added_run}
use Rattle.scatter.specs.Added.Laws.{run_none, run_next}
use Rattle.fast.specs.Held.{released}
use Rattle.fast.specs.Lanes.{lane_cells}
use Rattle.fast.specs.Lanes.Laws.{lane_read}
use Rattle.fast.proofs.row.put_lanes.Goals as goal

pub loop-k-init : goal.loop-k-init
loop-k-init c = (omega arith, refl, c.requires.2, sym (run_none _ 0 _))

pub offset_bounds-tx-k : goal.offset_bounds-tx-k
offset_bounds-tx-k c = record { fits = omega (arith, c.requires.0.columns) }

pub bounds-tx-k : goal.bounds-tx-k
bounds-tx-k c = omega (arith, c.requires.0.x.t_length)

pub offset_bounds-ty-k : goal.offset_bounds-ty-k
offset_bounds-ty-k c = record { fits = omega (arith, c.requires.0.columns) }

pub bounds-ty-k : goal.bounds-ty-k
bounds-ty-k c = omega (arith, c.requires.0.y.t_length)

pub offset_bounds-qx-k : goal.offset_bounds-qx-k
offset_bounds-qx-k c = record { fits = omega (arith, c.requires.0.columns) }

pub bounds-qx-k : goal.bounds-qx-k
bounds-qx-k c = omega (arith, c.requires.0.x.q_length)

pub offset_bounds-qy-k : goal.offset_bounds-qy-k
offset_bounds-qy-k c = record { fits = omega (arith, c.requires.0.columns) }

pub bounds-qy-k : goal.bounds-qy-k
bounds-qy-k c = omega (arith, c.requires.0.y.q_length)

pub overflow_add-column : goal.overflow_add-column
overflow_add-column c = record { fits = omega (arith, c.requires.0.columns) }

pub lane-p-requires : goal.lane-p-requires
lane-p-requires c =
    let s = c.requires.0 in
    let k = c.loop-k.k in
    let h : k < c.args.count = omega arith in
    let x = lane_read s.x k h (record { sfits = c.a-1.given }) (record { sfits = c.c-1.given }) in
    let y = lane_read s.y k h (record { sfits = c.b-1.given }) (record { sfits = c.d-1.given }) in (
      record {
        geometry = s.geometry;
        column_most = omega (arith, s.columns);
        row_most = s.row_most;
        tx_most = x.0;
        ty_most = y.0;
        floored_x = x.1;
        floored_y = y.1;
      },
      subst (λ (n : ℕ). grid_size c.args.g.shape ≤ n) (sym c.loop-k.invariant.1) c.requires.1,
      subst (λ (n : ℕ). c.loop-k.p.at + c.args.g.stride < n) (sym c.loop-k.invariant.1) c.loop-k.invariant.2,
    )

pub overflow_add-k : goal.overflow_add-k
overflow_add-k c = record { fits = omega (arith, c.requires.0.columns) }

pub loop-k-smaller : goal.loop-k-smaller
loop-k-smaller c = omega arith

pub loop-k-preserved : goal.loop-k-preserved
unfolding lane_cells
loop-k-preserved c =
    let l = c.loop-k in
    let g = c.args.g in
    let k = l.k in
    let tx = c.args.tx.now in
    let ty = c.args.ty.now in
    let z : 0 + k ≡ k = omega arith in
    let a : to_z w32 (of_z w32 (get_or tx k (pos 0))) ≡ get_or tx k (pos 0) = back w32 (record { sfits = c.a-1.given }) in
    let b : to_z w32 (of_z w32 (get_or ty k (pos 0))) ≡ get_or ty k (pos 0) = back w32 (record { sfits = c.b-1.given }) in
    let f = lane_cells g.shape c.args.column c.args.row tx ty in (
      omega arith,
      c.lane-p.auto.grid ∙ l.invariant.1,
      subst (λ (n : ℕ). c.lane-p.result.at + g.stride < n) l.invariant.1 c.lane-p.ensures.within,
      c.lane-p.ensures.adds
          ∙ (λ i. added (l.invariant.3 i) (cells_from g.shape (c.args.column + k) c.args.row (a i) (b i)))
          ∙ ap (added (added_run f 0 k (released g.stride c.args.held c.args.grid.now))) (ap f (sym z))
          ∙ sym (run_next f 0 k (released g.stride c.args.held c.args.grid.now)),
    )

pub shape_of-grid : goal.shape_of-grid
shape_of-grid c = c.loop-k.invariant.1

pub returns : goal.returns
returns c =
    let l = c.loop-k in
    let e : l.k ≡ c.args.count = omega arith in record {
      within = l.invariant.2;
      adds = l.invariant.3 ∙ ap (λ (n : ℕ). added_run (lane_cells c.args.g.shape c.args.column c.args.row c.args.tx.now c.args.ty.now) 0 n (released c.args.g.stride c.args.held c.args.grid.now)) e;
    }
