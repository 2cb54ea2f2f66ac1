-- `levels::settings` meets its contract: the cover's scale is the quotient that the definition names.
use borrow.Author.Rules.{rules}
use Rattle.levels.specs.Level.{cover_scale}
use Rattle.levels.proofs.settings.Goals as goal

pub returns : goal.returns
unfolding cover_scale
returns c = search rules
