-- `fast::row::fast_row` meets its contract. The loop's invariant: the blocks before `column` are added, but for what is held.
use mathlib.Core.Path.{◌≡◌, refl, sym, ap, ◌∙◌, subst}
use Prim.Native.Nat.{ℕ, ◌+◌, ◌*◌, ◌≤◌, ◌<◌}
use native.Mathlib.Omega.{arith}
use lib.IntN.{pos, nat_abs}
use mir.Syntax.{w32}
use mir.Val.{to_z, of_z}
use Rattle.record.specs.Shape.{grid_size}
use Rattle.record.specs.Shape.Laws.{shape_bounds, row_within, grid_cast, grid_count}
use Rattle.scatter.specs.Cells.{cells_at}
use Rattle.scatter.specs.Added.{added_run, row_added}
use Rattle.scatter.specs.Added.Laws.{run_none, run_join}
use Rattle.fast.specs.Held.{released}
use Rattle.fast.specs.Row.Laws.{released_none, stride_below}
use Rattle.fast.proofs.row.fast_row.Goals as goal
use Rattle.fast.proofs.row.fast_row.Lts as lts
use Rattle.fast.proofs.row.fast_row.Reads as reads
use Rattle.fast.proofs.row.fast_row.Tie as tie

module _ (s : lts.Start tie.the-claims reads.Pre reads.Post goal.the-invariant-loop-column goal.the-decreases-loop-column tie.handed_clauses) where
  abbrev n : ℕ
  n = nat_abs (to_z w32 (of_z w32 s.args.g.shape.grid_w))

  n_most : n ≤ 1024
  n_most = omega (arith, grid_count s.requires.1.geometry.accepted.x, s.requires.1.geometry.accepted.x.grid_range.most)

  first_most : s.args.row * n + n ≤ 1048576
  first_most =
      let a = s.requires.1.geometry.accepted in
      let h = row_within s.args.g.shape s.args.row s.requires.1.row_below in
      rw (grid_count a.x) (omega (arith, (shape_bounds s.args.g.shape a).blocks_most))

pub overflow_cast-columns : goal.overflow_cast-columns
overflow_cast-columns c = let s = c in grid_cast s.requires.1.geometry.accepted.x

pub overflow_mul-first : goal.overflow_mul-first
overflow_mul-first c = let s = c in record { fits = omega (arith, first_most s.before.before.before.before.before) }

pub loop-column-init : goal.loop-column-init
loop-column-init c =
    let s = c in
    let e = s.requires.1.geometry.stride in
    let h = s.requires.1.grid_room in (
      omega arith,
      refl,
      omega (arith, stride_below s.args.g.shape),
      ap (λ (m : ℕ). released m (record { at = 0; top = pos 0; bottom = pos 0 }) s.args.grid.now) e
          ∙ released_none s.args.g.shape s.args.grid.now h s.requires.2
          ∙ sym (run_none _ _ s.args.grid.now),
    )

pub overflow_sub-columns : goal.overflow_sub-columns
overflow_sub-columns c = omega arith

pub least-count-requires : goal.least-count-requires
least-count-requires c = tt

pub overflow_add-first : goal.overflow_add-first
overflow_add-first c = let s = c in record { fits = omega (arith, first_most s.before.before.before.before.before.before.before.before.before) }

pub chunk-held-requires : goal.chunk-held-requires
chunk-held-requires c =
    let s = c in
    let l = c.loop-column in
    let r = s.requires.1 in
    let t = c.least-count.ensures in (
      record {
        quick = s.requires.0;
        start_is = ap (λ (m : ℕ). s.args.row * m + l.column) (grid_count s.requires.1.geometry.accepted.x);
        columns = omega (arith, grid_count s.requires.1.geometry.accepted.x, t);
        count_most = omega (arith, t);
        row_below = r.row_below;
        set_room = r.set_room;
        grid_room = subst (λ (m : ℕ). grid_size s.args.g.shape ≤ m) (sym l.invariant.1) r.grid_room;
      },
      subst (λ (m : ℕ). l.held.at + s.args.g.stride < m) (sym l.invariant.1) l.invariant.2,
    )

pub overflow_add-column : goal.overflow_add-column
overflow_add-column c = let s = c in record { fits = omega (arith, n_most s.before.before.before.before.before.before.before.before.before.before.before, c.least-count.ensures) }

pub loop-column-smaller : goal.loop-column-smaller
loop-column-smaller c =
    let t = c.least-count.ensures in
    let l = c.loop-column in
    omega (arith, t)

pub loop-column-preserved : goal.loop-column-preserved
loop-column-preserved c =
    let s = c in
    let l = c.loop-column in
    let f = cells_at s.args.g.shape s.args.g.time s.args.set.now in (
      omega (arith, c.least-count.ensures),
      c.chunk-held.auto.grid ∙ l.invariant.1,
      subst (λ (m : ℕ). c.chunk-held.result.at + s.args.g.stride < m) l.invariant.1 c.chunk-held.ensures.within,
      c.chunk-held.ensures.adds
          ∙ ap (added_run f (s.args.row * n s.before.before.before.before.before.before.before.before.before.before.before + l.column) c.least-count.result) l.invariant.3
          ∙ run_join f (s.args.row * n s.before.before.before.before.before.before.before.before.before.before.before) l.column c.least-count.result s.args.grid.now,
    )

pub release-requires : goal.release-requires
release-requires c =
    let s = c in
    subst (λ (m : ℕ). c.loop-column.held.at + s.args.g.stride < m) (sym c.loop-column.invariant.1) c.loop-column.invariant.2

pub shape_of-grid : goal.shape_of-grid
shape_of-grid c = c.release.auto.grid ∙ c.loop-column.invariant.1

pub returns : goal.returns
unfolding row_added
returns c =
    let s = c in
    let l = c.loop-column in
    let e : l.column ≡ n s.before.before.before.before.before.before.before.before.before.before = omega arith in
    let r : c.release.new.grid ≡ released s.args.g.stride l.held l.grid = c.release.ensures in
    r
    ∙ l.invariant.3
    ∙ (λ i. added_run (cells_at s.args.g.shape s.args.g.time s.args.set.now) (s.args.row * grid_count s.requires.1.geometry.accepted.x i) ((e ∙ grid_count s.requires.1.geometry.accepted.x) i) s.args.grid.now)
