-- `fast::lanes::floor_lanes` meets its contract. The loop's invariant: the first k lanes are filled.
use Rattle.std.specs.Prelude.{ℤ, pos, nat_abs, get_or}
use Rattle.std.proofs.Common.{ap, ◌∙◌, arith, rules, SFits}
use Rattle.std.specs.Int.{w32}
use Rattle.arith.specs.Floor.{floor_z}
use Rattle.arith.specs.Floor.Laws.{floor_fits}
use Rattle.arith.specs.Signed.{back, read}
use Rattle.arith.specs.Filling.{fill_start, fill_next}
use Rattle.fast.specs.Lanes.{floored_at}
use Rattle.fast.proofs.lanes.floor_lanes.Goals as goal

pub loop-k-init : goal.loop-k-init
loop-k-init c = fill_start (floored_at c.args.t.now c.args.step.divisor) c.args.q.now

pub loop-k-preserved : goal.loop-k-preserved
loop-k-preserved c =
    let l = c.loop-k in
    let t = c.args.t.now in
    let x = get_or t l.k (pos 0) in
    let f : SFits w32 x = search rules in
    let D = c.args.step.divisor in
    fill_next (floored_at t D) l.q c.args.q.now l.k _ (omega arith)
    (read w32 (c.apply.ensures ∙ ap (λ (z : ℤ). floor_z z D) (back w32 f)) (floor_fits w32 x (nat_abs D) f)) l.invariant
