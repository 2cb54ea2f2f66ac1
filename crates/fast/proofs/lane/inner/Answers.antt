-- `fast::lane::inner` meets its contract: a product of two parts is at most 65,536, of either sign.
use Rattle.std.proofs.Common.{◌∙◌, rules, SFits}
use Rattle.std.specs.Int.{w32}
use Rattle.scatter.specs.Block.Laws.{product_read}
use Rattle.fast.specs.Held.{four, released}
use Rattle.fast.proofs.lane.inner.Goals as goal

pub returns-clause-adds : goal.returns-clause-adds
returns-clause-adds c =
    let a = c.args in
    let p = c.requires.0 in
    let rx : SFits w32 a.x.near = search rules in
    let lx : SFits w32 a.x.far = search rules in
    let ry : SFits w32 a.y.near = search rules in
    let ly : SFits w32 a.y.far = search rules in
    c.turn.ensures.adds
    ∙ (λ i. four a.stride a.at (product_read ry rx p.ry_most p.rx_most i) (product_read ry lx p.ry_most p.lx_most i) (product_read ly lx p.ly_most p.lx_most i)
    (product_read rx ly p.rx_most p.ly_most i) (released a.stride a.held a.grid.now))
