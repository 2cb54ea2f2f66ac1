-- `maps::judge::score_each` meets its contract: the first j scores are filled.
use Rattle.std.proofs.Common.{ℕ, ◌+◌, ℤ, pos, arith, w32}
use Rattle.arith.specs.Filling.{fill_start, fill_next}
use Rattle.arith.specs.Signed.{read}
use Rattle.maps.specs.Map.{score_at}
use Rattle.maps.proofs.Filled.{filled_whole}
use Rattle.maps.proofs.Laws.Map.{score_at_fits}
use Rattle.maps.proofs.judge.score_each.Goals as goal

pub loop-j-init : goal.loop-j-init
loop-j-init c = fill_start _ _

pub loop-j-preserved : goal.loop-j-preserved
loop-j-preserved c =
    let a = c.args in
    let score : ℕ → ℤ = λ x. score_at a.set.now a.averages.now (a.start + x) in
    fill_next score c.loop-j.scores a.scores.now c.loop-j.j _ (omega arith) (read w32 c.score_at.ensures (score_at_fits _ _ _)) c.loop-j.invariant

pub returns : goal.returns
returns c =
    let a = c.args in
    let score : ℕ → ℤ = λ x. score_at a.set.now a.averages.now (a.start + x) in
    filled_whole (pos 0) score c.loop-j.scores a.scores.now c.loop-j.j (omega arith) c.loop-j.invariant
