-- `fast::whole::fast_scatter` meets its contract. The loop's invariant: the rows before `row` have been added to the zeros.
use Rattle.std.specs.Prelude.{◌≡◌, List, ℕ, ◌+◌, ◌*◌, ℤ, pos, length, get_or}
use Rattle.std.proofs.Common.{sym, ap, ◌∙◌, arith}
use Rattle.arith.specs.Integers.{up}
use Rattle.arith.specs.Splice.{over}
use Rattle.record.specs.Shape.{grid_size}
use Rattle.record.specs.Shape.Laws.{trash_most, grid_count}
use Rattle.scatter.specs.declared.geometry.Scatter.{Scatter}
use Rattle.scatter.specs.Geometry.{Geometry}
use Rattle.scatter.specs.Added.{added_run}
use Rattle.scatter.specs.Added.Laws.{rows_none, rows_step}
use Rattle.scatter.specs.Grid.{zeros}
use Rattle.scatter.specs.Grid.Laws.{rows_all}
use Rattle.fast.specs.Row.Laws.{run_signed, zeros_at}
use Rattle.fast.proofs.whole.fast_scatter.Goals as goal

size_is : (g : Scatter) → Geometry g → g.trash + 1 ≡ grid_size g.shape
unfolding grid_size
size_is g y = ap (λ (n : ℕ). n + 1) y.trash

cleared : (g : Scatter) → Geometry g → (grid l : List ℤ) → l ≡ over (zeros (g.trash + 1)) grid → l ≡ over (zeros (grid_size g.shape)) grid
cleared g y grid l e = e ∙ ap (λ (n : ℕ). over (zeros n) grid) (size_is g y)

pub overflow_add-size : goal.overflow_add-size
overflow_add-size c = record { fits = omega (arith, c.requires.geometry.trash, trash_most c.args.g.shape c.requires.geometry.accepted) }

pub clear-requires : goal.clear-requires
clear-requires c = omega (arith, size_is c.args.g c.requires.geometry, c.requires.grid_room)

pub loop-row-init : goal.loop-row-init
loop-row-init c = sym (rows_none _ _ _ c.clear.new.grid)

pub fast_row-requires : goal.fast_row-requires
fast_row-requires c =
    let r = c.requires in
    let g = c.args.g in
    let z = c.clear.new.grid in
    let same : length c.loop-row.grid ≡ length c.args.grid.now = c.loop-row.auto.grid ∙ c.clear.auto.grid in (
      record { geometry = r.geometry; taken = r.taken; is = c.ready-f.ensures },
      record {
        geometry = r.geometry;
        row_below = omega (arith, grid_count r.geometry.accepted.y);
        set_room = r.set_room;
        grid_room = omega (arith, r.grid_room, same);
      },
      run_signed g.shape g.time c.args.set.now (c.loop-row.row * up g.shape.grid_w) z c.loop-row.grid (omega (arith, r.grid_room, c.clear.auto.grid))
          (λ j h. ap (λ (x : List ℤ). get_or x j (pos 0)) (cleared g r.geometry c.args.grid.now z c.clear.ensures)
          ∙ zeros_at (grid_size g.shape) c.args.grid.now j h)
          c.loop-row.invariant,
    )

pub loop-row-preserved : goal.loop-row-preserved
loop-row-preserved c = rows_step _ _ _ c.loop-row.row _ c.loop-row.grid _ c.loop-row.invariant c.fast_row.ensures

pub returns : goal.returns
returns c =
    let y = c.requires.geometry in
    let g = c.args.g in
    let l = c.loop-row in
    l.invariant
    ∙ ap (added_run _ 0 (l.row * up g.shape.grid_w)) (cleared g y c.args.grid.now c.clear.new.grid c.clear.ensures)
    ∙ rows_all g.shape g.time c.args.set.now l.row c.args.grid.now (omega (arith, grid_count y.accepted.y))
