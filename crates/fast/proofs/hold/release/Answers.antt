-- `fast::hold::release` meets its contract.
use Rattle.std.proofs.Common.{◌∙◌, rules, SFits}
use Rattle.std.specs.Int.{w32}
use Rattle.arith.specs.Signed.{back}
use Rattle.fast.specs.Held.{paired, released}
use Rattle.fast.proofs.hold.release.Goals as goal

pub returns : goal.returns
unfolding released
returns c =
    let h = c.args.held in
    let top : SFits w32 h.top = search rules in
    let bottom : SFits w32 h.bottom = search rules in
    c.pair.ensures ∙ (λ j. paired c.args.stride h.at (back w32 top j) (back w32 bottom j) c.args.grid.now)
