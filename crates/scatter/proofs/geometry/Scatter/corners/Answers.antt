-- `scatter::geometry::Scatter::corners` meets its contract: one more than a first cell fits an i32.
use Rattle.std.proofs.Common.{◌≡◌, [], ◌∷◌, ℤ, pos, ◌+ℤ◌, ap, ◌∙◌, w32, SFits, to_z, of_z}
use Rattle.arith.specs.Signed.{back, read, fits_by}
use Rattle.scatter.specs.Block.Laws.{next_fits}
use Rattle.scatter.specs.Cells.{place_of, corners_of}
use Rattle.scatter.proofs.geometry.Scatter.corners.Goals as goal

next_is : {z : ℤ} → SFits w32 z → to_z w32 (of_z w32 z) +ℤ pos 1 ≡ z +ℤ pos 1
next_is f = ap (λ (z : ℤ). z +ℤ pos 1) (back w32 f)

pub overflow_add-right : goal.overflow_add-right
overflow_add-right c = fits_by (next_is c.ranges.cx) (next_fits c.args.cx c.requires.cx_most)

pub overflow_add-below : goal.overflow_add-below
overflow_add-below c = fits_by (next_is c.ranges.cy) (next_fits c.args.cy c.requires.cy_most)

pub returns : goal.returns
unfolding corners_of
returns c =
    let a = c.args in
    let r = c.ranges in
    let shape = a.self.shape in
    let x = back w32 r.cx in
    let y = back w32 r.cy in
    let right = read w32 (next_is r.cx) (next_fits a.cx c.requires.cx_most) in
    let below = read w32 (next_is r.cy) (next_fits a.cy c.requires.cy_most) in
    λ i.
    (c.place.ensures ∙ (λ j. place_of shape (x j) (y j))) i ∷
    (c.place-2.ensures ∙ (λ j. place_of shape (right j) (y j))) i ∷
    (c.place-3.ensures ∙ (λ j. place_of shape (right j) (below j))) i ∷
    (c.place-4.ensures ∙ (λ j. place_of shape (x j) (below j))) i ∷
    []
