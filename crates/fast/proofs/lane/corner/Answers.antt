-- `fast::lane::corner` meets its contract: the bits of x are below W - 1 just where x is from 0 to W - 2, and likewise those of y.
use Rattle.std.proofs.Common.{◌∙◌, arith}
use Rattle.arith.specs.Wrap.Laws.{res_back}
use Rattle.scatter.specs.Cells.{index_of}
use Rattle.scatter.specs.Geometry.Laws.{sizes}
use Rattle.fast.specs.Corner.Laws.{corner_left, corner_above, corner_in, corner_none, corner_some}
use Rattle.fast.proofs.lane.corner.Goals as goal

pub overflow_sub-g : goal.overflow_sub-g
overflow_sub-g c = omega (arith, c.requires.width, (sizes c.args.g c.requires).width_least)

pub returns-then-g-column : goal.returns-then-g-column
returns-then-g-column c =
    let a = c.args in
    let x = res_back a.x c.to_bits-column.result c.ranges.x c.to_bits-column.ensures in
    corner_none a.g.shape a.x a.y (corner_left a.g.shape a.x a.y c.ranges.x (omega (arith, c.if-g-column.true, c.requires.width, x)))

pub overflow_sub-g-2 : goal.overflow_sub-g-2
overflow_sub-g-2 c = omega (arith, c.requires.height, (sizes c.args.g c.requires).height_least)

pub returns-then-g-row : goal.returns-then-g-row
returns-then-g-row c =
    let a = c.args in
    let y = res_back a.y c.to_bits-row.result c.ranges.y c.to_bits-row.ensures in
    corner_none a.g.shape a.x a.y (corner_above a.g.shape a.x a.y c.ranges.y (omega (arith, c.if-g-row.true, c.requires.height, y)))

pub index-requires : goal.index-requires
index-requires c =
    let h = c.if-g-column.false in
    let k = c.if-g-row.false in
    (c.requires, omega arith, omega arith)

pub returns : goal.returns
returns c =
    let a = c.args in
    let s = a.g.shape in
    let m = sizes a.g c.requires in
    let x = res_back a.x c.to_bits-column.result c.ranges.x c.to_bits-column.ensures in
    let y = res_back a.y c.to_bits-row.result c.ranges.y c.to_bits-row.ensures in
    let e = c.index.ensures ∙ (λ i. index_of s (x i) (y i)) in
    corner_some s a.x a.y c.index.result _ _ e
    (e
    ∙ corner_in s a.x a.y c.ranges.x c.ranges.y (omega (arith, m.width_most)) (omega (arith, m.height_most))
    (omega (arith, c.if-g-column.false, c.requires.width, x))
    (omega (arith, c.if-g-row.false, c.requires.height, y)))
