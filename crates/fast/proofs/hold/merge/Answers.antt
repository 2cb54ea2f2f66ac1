-- `fast::hold::merge` meets its contract: two sums go in instead of four products.
use Rattle.std.specs.Prelude.{◌+ℤ◌}
use Rattle.std.proofs.Common.{◌∙◌, rules, SFits}
use Rattle.std.specs.Int.{w32}
use Rattle.arith.specs.Wrap.Laws.{wrapped_read}
use Rattle.fast.specs.Held.{paired, released}
use Rattle.fast.specs.Held.Laws.{paired_twice}
use Rattle.fast.proofs.hold.merge.Goals as goal

pub returns : goal.returns
unfolding released
returns c =
    let a = c.args in
    let h = a.held in
    let top : SFits w32 h.top = search rules in
    let bottom : SFits w32 h.bottom = search rules in
    let v0 = wrapped_read ◌+ℤ◌ c.ranges.v0 top c.wrapping_add-t.ensures in
    let v3 = wrapped_read ◌+ℤ◌ c.ranges.v3 bottom c.wrapping_add-b.ensures in
    c.pair.ensures
    ∙ (λ j. paired a.stride h.at (v0 j) (v3 j) a.grid.now)
    ∙ paired_twice a.stride h.at h.top h.bottom a.v0 a.v3 a.grid.now c.requires
