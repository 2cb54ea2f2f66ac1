-- `fast::lanes::scale_lanes` meets its contract. The loop's invariant: the first k lanes are filled.
use Rattle.std.specs.Prelude.{◌^◌, ℤ, pos, ◌*ℤ◌, get_or}
use Rattle.std.proofs.Common.{sym, ap, ◌∙◌, arith, rules, SFits, to_z, of_z}
use Rattle.std.specs.Int.{w32}
use Rattle.std.specs.Int.Signed.{quot_z}
use Rattle.arith.specs.Signed.{back, read, product_is, quot_fits}
use Rattle.arith.specs.Filling.{fill_start, fill_next}
use Rattle.scatter.specs.Block.Laws.{travel_fits}
use Rattle.fast.specs.Lanes.{scaled_at}
use Rattle.fast.proofs.lanes.scale_lanes.Goals as goal

pub loop-k-init : goal.loop-k-init
loop-k-init c = fill_start (scaled_at c.args.v.now (to_z w32 (of_z w32 c.args.time)) c.args.shift) c.args.t.now

pub loop-k-preserved : goal.loop-k-preserved
loop-k-preserved c =
    let l = c.loop-k in
    let v = c.args.v.now in
    let x = get_or v l.k (pos 0) in
    let T = c.args.time in
    let f : SFits w32 x = search rules in
    let p = travel_fits T x c.requires.1 (c.requires.4.most l.k) in
    let M = 2 ^ c.args.shift in
    fill_next (scaled_at v (to_z w32 (of_z w32 T)) c.args.shift) l.t c.args.t.now l.k _ (omega arith)
    (read w32 (c.scale.ensures ∙ ap (λ (z : ℤ). quot_z z (pos M)) (read w32 (product_is w32 c.ranges.time f) p)) (quot_fits w32 (T *ℤ x) M p)
    ∙ sym (ap (λ (z : ℤ). quot_z (z *ℤ x) (pos M)) (back w32 c.ranges.time)))
    l.invariant
