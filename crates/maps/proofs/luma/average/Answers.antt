-- `maps::luma::average` meets its contract: two lumas sum to at most 510.
use Rattle.std.proofs.Common.{ℕ, ◌+◌, get_or, ap₂}
use Rattle.maps.specs.Luma.{average_at}
use Rattle.maps.proofs.luma.average.Goals as goal

pub returns : goal.returns
unfolding average_at
returns c = ap₂ (λ (a b : ℕ). get_or c.args.table.now (a + b) 0) c.luma_at-b.ensures c.luma_at-f.ensures
