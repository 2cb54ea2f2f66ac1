-- `scatter::geometry::products` meets its contract: a product of two parts is at most 65,536, of either sign.
use Rattle.std.proofs.Common.{rules, [], ◌∷◌, w32, SFits}
use Rattle.scatter.specs.Block.Laws.{product_read}
use Rattle.scatter.specs.Cells.{products_of}
use Rattle.scatter.proofs.geometry.products.Goals as goal

pub returns : goal.returns
unfolding products_of
returns c =
    let small = c.requires in
    let rx : SFits w32 c.args.x.near = search rules in
    let lx : SFits w32 c.args.x.far = search rules in
    let ry : SFits w32 c.args.y.near = search rules in
    let ly : SFits w32 c.args.y.far = search rules in
    λ i.
    product_read ry rx small.ry_most small.rx_most i ∷
    product_read ry lx small.ry_most small.lx_most i ∷
    product_read ly lx small.ly_most small.lx_most i ∷
    product_read rx ly small.rx_most small.ly_most i ∷
    []
