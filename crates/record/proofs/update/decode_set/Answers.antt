-- `record::update::decode_set` meets its contract: each piece is copied behind those before it.
use Rattle.std.proofs.Common.{◌≡◌, ap, sym, ◌∙◌, arith, length, take, drop, ℕ, ◌+◌, ◌-◌, ◌*◌, ◌≤◌, List, length-take, length-drop, length-take-le}
use Prim.Native.Nat.{◌/◌}
use borrow.Rule.Slice.PartMut.{put_mid}
use Rattle.arith.specs.Splice.{over, splice}
use Rattle.arith.specs.Splice.Laws.{over_zero, over_all, over_take_add, part_written, length_over}
use Rattle.record.proofs.update.decode_set.Goals as goal

-- a part of n bytes from `at` on, lent, copied whole and handed back, behind those copied before
piece : (p s l v : List ℕ) (at n : ℕ) → at + n ≤ length p → at + n ≤ length s → l ≡ over (take at p) s → v ≡ take n (drop at p)
    → put_mid at n l v ≡ over (take (at + n) p) s
piece p s l v at n hp hs el ev =
    let a : length (take at p) ≡ at = length-take-le at p (omega arith) in
    let room : length l ≡ length s = ap length el ∙ length_over (take at p) s (omega (arith, a)) in
    let whole : length v ≡ length (take n (drop at l)) = ap length ev ∙ simp (length-take, length-drop) (omega (arith, room)) in
    part_written at n v l v (omega (arith, whole)) (sym (over_all v (take n (drop at l)) whole)) ∙ (λ i. splice at (ev i) (el i)) ∙ over_take_add p s at n hp hs

pub loop-k-init : goal.loop-k-init
loop-k-init c = sym (over_zero c.args.part.now c.args.set.now)

pub loop-k-preserved : goal.loop-k-preserved
loop-k-preserved c =
    let a = c.args in
    let l = c.loop-k in
    let r = c.requires in
    let some : 4096 * (l.k + 1) ≤ a.size = omega (arith, c.loop-k-test.true) in
    let n : 4096 * l.k + 4096 - 4096 * l.k ≡ 4096 = omega arith in
    let sum : 4096 * l.k + 4096 ≡ 4096 * (l.k + 1) = omega arith in
    piece a.part.now a.set.now l.set _ (4096 * l.k) (4096 * l.k + 4096 - 4096 * l.k) (omega (arith, n, some, r.0)) (omega (arith, n, some, r.1)) l.invariant
    c.copy_from_slice.ensures.after
    ∙ ap (λ (k : ℕ). over (take k a.part.now) a.set.now) (omega (arith, n, sum))

pub returns : goal.returns
returns c =
    let a = c.args in
    let r = c.requires in
    let rest : ℕ = 4096 * (a.size / 4096) in
    let all : 4096 * c.loop-k.k ≡ rest = omega (arith, c.loop-k-test.false) in
    let sum : rest + (a.size - rest) ≡ a.size = omega arith in
    piece a.part.now a.set.now c.loop-k.set _ rest (a.size - rest) (omega (arith, sum, r.0)) (omega (arith, sum, r.1))
    (c.loop-k.invariant ∙ ap (λ (k : ℕ). over (take k a.part.now) a.set.now) all) c.copy_from_slice-2.ensures.after
    ∙ ap (λ (k : ℕ). over (take k a.part.now) a.set.now) sum
