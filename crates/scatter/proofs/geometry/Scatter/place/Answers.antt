-- `scatter::geometry::Scatter::place` meets its contract: the bits of a number below a bound are the number, and those of any other are not below it.
use Rattle.std.proofs.Common.{sym, ◌∙◌, arith}
use Rattle.arith.specs.Wrap.Laws.{res_back}
use Rattle.scatter.specs.Cells.{index_of}
use Rattle.scatter.specs.Geometry.Laws.{sizes}
use Rattle.scatter.specs.Cells.Laws.{place_left, place_above, place_inside}
use Rattle.scatter.proofs.geometry.Scatter.place.Goals as goal

pub returns-then-self-column : goal.returns-then-self-column
returns-then-self-column c =
    let a = c.args in
    let x = res_back a.x c.to_bits-column.result c.ranges.x c.to_bits-column.ensures in
    c.requires.trash ∙ sym (place_left a.self.shape a.x a.y c.ranges.x (omega (arith, c.if-self-column.true, c.requires.width, x)))

pub returns-then-self-row : goal.returns-then-self-row
returns-then-self-row c =
    let a = c.args in
    let y = res_back a.y c.to_bits-row.result c.ranges.y c.to_bits-row.ensures in
    c.requires.trash ∙ sym (place_above a.self.shape a.x a.y c.ranges.y (omega (arith, c.if-self-row.true, c.requires.height, y)))

pub index-requires : goal.index-requires
index-requires c = (c.requires, c.if-self-column.false, c.if-self-row.false)

pub returns : goal.returns
returns c =
    let a = c.args in
    let g = c.requires in
    let x = res_back a.x c.to_bits-column.result c.ranges.x c.to_bits-column.ensures in
    let y = res_back a.y c.to_bits-row.result c.ranges.y c.to_bits-row.ensures in
    let size = sizes a.self g in
    c.index.ensures
    ∙ (λ i. index_of a.self.shape (x i) (y i))
    ∙ sym
    (place_inside a.self.shape a.x a.y c.ranges.x c.ranges.y (omega (arith, size.width_most)) (omega (arith, size.height_most))
    (omega (arith, c.if-self-column.false, g.width)) (omega (arith, c.if-self-row.false, g.height)))
