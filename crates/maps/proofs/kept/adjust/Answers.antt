-- `maps::kept::adjust` meets its contract: each count by what the block gave and gives.
use Rattle.std.proofs.Common.{◌≡◌, ap, ◌∙◌, w32}
use Rattle.arith.specs.Signed.{back}
use Rattle.maps.specs.Class.{tally, weight_of}
use Rattle.maps.specs.Kept.{moved_count, adjusted}
use Rattle.maps.proofs.kept.adjust.Goals as goal

pub returns : goal.returns
unfolding adjusted
returns c =
    let k = c.args.counts in
    let gave : c.weight-b.result ≡ weight_of c.args.limits c.args.before = c.weight-b.ensures ∙ ap (weight_of c.args.limits) (back w32 c.ranges.before) in
    let gives : c.weight-a.result ≡ weight_of c.args.limits c.args.after = c.weight-a.ensures ∙ ap (weight_of c.args.limits) (back w32 c.ranges.after) in
    (λ i. tally (c.moved_count.ensures i) (c.moved_count-2.ensures i) (c.moved_count-3.ensures i) (c.moved_count-4.ensures i))
    ∙ (λ i. tally
    (moved_count k.counted (gave i).counted (gives i).counted)
    (moved_count k.scene (gave i).scene (gives i).scene)
    (moved_count k.m2 (gave i).m2 (gives i).m2)
    (moved_count k.m1 (gave i).m1 (gives i).m1))
