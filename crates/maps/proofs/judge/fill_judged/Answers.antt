-- `maps::judge::fill_judged` meets its contract: the first n are all of them.
use Rattle.std.proofs.Common.{◌≡◌, ◌≤◌, length, take, ap, ◌∙◌, arith, length-take}
use Rattle.record.specs.Shape.{blocks_of, set_size}
use Rattle.record.specs.Shape.Laws.{shape_bounds}
use Rattle.maps.specs.Map.{score_at, map_at, map_of, map_made}
use Rattle.maps.specs.Class.{counts_by, counts_of}
use Rattle.maps.proofs.Filled.{filled_front}
use Rattle.maps.proofs.judge.fill_judged.Goals as goal

pub judge_blocks-requires : goal.judge_blocks-requires
unfolding set_size
judge_blocks-requires c =
    let p = c.requires in
    let m = (shape_bounds c.args.shape p.accepted).blocks_most in
    let e = c.blocks-n.ensures in
    simp length-take (omega arith, omega (arith, p.set_room), omega (arith, p.averages_room))

pub returns : goal.returns
unfolding map_made map_of counts_of
returns c =
    let a = c.args in
    let n = c.blocks-n.result in
    let e : n ≡ blocks_of a.shape = c.blocks-n.ensures in
    let room : n ≤ length a.map.now = omega (arith, c.requires.map_room) in
    let m : length (take n a.map.now) ≡ n = simp length-take (omega arith) in (
      c.judge_blocks.ensures.0 ∙ ap (counts_by a.limits (score_at a.set.now a.averages.now)) (m ∙ e),
      rw (← e) (filled_front (map_at a.limits a.set.now a.averages.now) a.map.now _ n room c.judge_blocks.ensures.1),
    )
