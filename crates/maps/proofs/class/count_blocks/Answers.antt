-- `maps::class::count_blocks` meets its contract: the counts are those of the first i blocks.
use Rattle.std.proofs.Common.{◌≡◌, arith}
use Rattle.record.specs.Shape.{set_size}
use Rattle.record.specs.Shape.Laws.{shape_bounds}
use Rattle.maps.specs.Map.{score_at}
use Rattle.maps.specs.Class.{counts_of}
use Rattle.maps.proofs.Laws.Class.{none_counted, weighed, few_more, one_more}
use Rattle.maps.proofs.class.count_blocks.Goals as goal

pub loop-i-init : goal.loop-i-init
loop-i-init c = none_counted _ _ c.default-counts.ensures

pub score_at-requires : goal.score_at-requires
unfolding set_size
score_at-requires c = omega (arith, c.requires.set_room, c.requires.averages_room)

pub plus-counts-requires : goal.plus-counts-requires
plus-counts-requires c =
    let few = (shape_bounds c.args.shape c.requires.accepted).blocks_most in
    few_more c.args.limits (score_at c.args.set.now c.args.averages.now) c.loop-i.i c.loop-i.invariant (weighed _ _ _ _ c.score_at.ensures c.weight.ensures) (omega arith)

pub loop-i-preserved : goal.loop-i-preserved
loop-i-preserved c =
    one_more c.args.limits (score_at c.args.set.now c.args.averages.now) c.loop-i.i c.loop-i.invariant (weighed _ _ _ _ c.score_at.ensures c.weight.ensures) c.plus-counts.ensures

pub returns : goal.returns
unfolding counts_of
returns c = let e : c.loop-i.i ≡ c.blocks-n.result = omega arith in rw (← c.blocks-n.ensures, ← e) c.loop-i.invariant
