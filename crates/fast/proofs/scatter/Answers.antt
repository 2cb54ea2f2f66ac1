-- `fast::scatter` meets its contract, which both scatters have.
use Rattle.std.specs.Prelude.{◌≡◌, true, List, ℕ, ◌≤◌, ℤ}
use Rattle.std.proofs.Common.{sym, ◌∙◌, subst, to_z, of_z}
use Rattle.std.specs.Int.{w32}
use Rattle.arith.specs.Splice.{over}
use Rattle.record.specs.Shape.{set_size, grid_size}
use Rattle.record.specs.declared.shape.FieldShape.{FieldShape}
use Rattle.scatter.specs.declared.geometry.Scatter.{Scatter}
use Rattle.scatter.specs.Geometry.{Geometry, ScatterRoom, geometry_of}
use Rattle.scatter.specs.Geometry.Laws.{time_back, geometry_back, geometry_made}
use Rattle.scatter.specs.Grid.{grid_of}
use Rattle.fast.specs.Condition.{fast_row}
use Rattle.fast.specs.Row.{FastRoom}
use Rattle.fast.proofs.scatter.Goals as goal

-- the numbers that code works out of a shape and a time
module _ (s : FieldShape) (time : ℤ) (set grid : ℕ) (r : ScatterRoom s time set grid) (g : Scatter) (e : g ≡ geometry_of s (to_z w32 (of_z w32 time))) where
  made : g ≡ geometry_of s time
  made = geometry_back r.timed s g e

  geometry : Geometry g
  geometry = geometry_made r.timed s g r.accepted e

  room : fast_row g.shape ≡ true → FastRoom g set grid
  unfolding geometry_of
  room t =
      record {
        geometry = geometry;
        taken = t;
        set_room = subst (λ (h : Scatter). set_size h.shape ≤ set) (sym made) r.set_room;
        grid_room = subst (λ (h : Scatter). grid_size h.shape ≤ grid) (sym made) r.grid_room;
      }

  same : (l : List ℕ) (k : List ℤ) → over (grid_of g.shape g.time l) k ≡ over (grid_of s time l) k
  unfolding geometry_of
  same l k = λ i. over (grid_of (made i).shape (made i).time l) k

pub is_fast-requires : goal.is_fast-requires
is_fast-requires c = geometry c.args.shape c.args.time _ _ c.requires c.new-g.result c.new-g.ensures

pub fast_scatter-requires : goal.fast_scatter-requires
fast_scatter-requires c = room c.args.shape c.args.time _ _ c.requires c.new-g.result c.new-g.ensures (sym c.is_fast.ensures ∙ c.if-is_fast.true)

pub returns-then-is_fast : goal.returns-then-is_fast
returns-then-is_fast c =
    let a = c.args in
    c.fast_scatter.ensures ∙ same a.shape a.time _ _ c.requires c.new-g.result c.new-g.ensures a.set.now a.grid.now

pub returns-else-is_fast : goal.returns-else-is_fast
returns-else-is_fast c =
    let a = c.args in
    c.scatter.ensures ∙ (λ i. over (grid_of a.shape (time_back c.requires.timed i) a.set.now) a.grid.now)
