-- `maps::map::map_byte` meets its contract: four tests, in order.
use Rattle.std.proofs.Common.{rules, w32}
use Rattle.maps.specs.Map.{map_byte}
use Rattle.maps.proofs.Reading.{lt_read}
use Rattle.maps.proofs.map.map_byte.Goals as goal

pub returns-then-score-limits : goal.returns-then-score-limits
unfolding map_byte
returns-then-score-limits c =
    let zero = lt_read w32 c.args.score c.args.limits.zero c.ranges.score (search rules) c.if-score-limits.true in
    simp zero

pub returns-then-score-limits-2 : goal.returns-then-score-limits-2
unfolding map_byte
returns-then-score-limits-2 c =
    let l = c.args.limits in
    let zero = lt_read w32 c.args.score l.zero c.ranges.score (search rules) c.if-score-limits.false in
    let m1 = lt_read w32 c.args.score l.m1 c.ranges.score (search rules) c.if-score-limits-2.true in
    simp (zero, m1)

pub returns-then-score-limits-3 : goal.returns-then-score-limits-3
unfolding map_byte
returns-then-score-limits-3 c =
    let l = c.args.limits in
    let zero = lt_read w32 c.args.score l.zero c.ranges.score (search rules) c.if-score-limits.false in
    let m1 = lt_read w32 c.args.score l.m1 c.ranges.score (search rules) c.if-score-limits-2.false in
    let m2 = lt_read w32 c.args.score l.m2 c.ranges.score (search rules) c.if-score-limits-3.true in
    simp (zero, m1, m2)

pub returns-then-score-limits-4 : goal.returns-then-score-limits-4
unfolding map_byte
returns-then-score-limits-4 c =
    let l = c.args.limits in
    let zero = lt_read w32 c.args.score l.zero c.ranges.score (search rules) c.if-score-limits.false in
    let m1 = lt_read w32 c.args.score l.m1 c.ranges.score (search rules) c.if-score-limits-2.false in
    let m2 = lt_read w32 c.args.score l.m2 c.ranges.score (search rules) c.if-score-limits-3.false in
    let scene = lt_read w32 c.args.score l.scene c.ranges.score (search rules) c.if-score-limits-4.true in
    simp (zero, m1, m2, scene)

pub returns : goal.returns
unfolding map_byte
returns c =
    let l = c.args.limits in
    let zero = lt_read w32 c.args.score l.zero c.ranges.score (search rules) c.if-score-limits.false in
    let m1 = lt_read w32 c.args.score l.m1 c.ranges.score (search rules) c.if-score-limits-2.false in
    let m2 = lt_read w32 c.args.score l.m2 c.ranges.score (search rules) c.if-score-limits-3.false in
    let scene = lt_read w32 c.args.score l.scene c.ranges.score (search rules) c.if-score-limits-4.false in
    simp (zero, m1, m2, scene)
