-- `masks::sad_levels::SadLevels::level` meets its contract: a small sad is an index of the table.
use Rattle.std.proofs.Common.{◌∙◌}
use Rattle.masks.proofs.sad_levels.SadLevels.level.Goals as goal

pub returns-in-Some : goal.returns-in-Some
returns-in-Some c =
    let found = c.in-Some.ensures.lookup.3 in
    found.1 0 ∙ c.args.self.now.filled c.args.sad found.0
