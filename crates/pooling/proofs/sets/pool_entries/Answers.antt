-- `pooling::sets::pool_entries` meets its contract: eight more bytes at each turn.
use Rattle.std.proofs.Common.{◌≡◌, ℕ, ◌+◌, ◌*◌, ap, ◌∙◌, arith}
use Rattle.arith.specs.Filling.{fill_start, fill_splice}
use Rattle.arith.specs.Splice.{over}
use Rattle.arith.specs.Tabulate.{tab}
use Rattle.record.specs.Bytes.{pair_bytes}
use Rattle.pooling.specs.Pool.{kept_byte}
use Rattle.pooling.specs.Pool.Laws.{kept_word}
use Rattle.pooling.specs.Words.{vector_of, extra_of}
use Rattle.pooling.proofs.sets.pool_entries.Goals as goal

pub loop-i-init : goal.loop-i-init
loop-i-init c = fill_start (kept_byte c.args.first.now c.args.second.now) c.args.set.now

pub loop-i-preserved : goal.loop-i-preserved
loop-i-preserved c =
    let i = c.loop-i.i in
    let p = c.args.first.now in
    let q = c.args.second.now in
    let l = c.args.set.now in
    let f : ℕ → ℕ = kept_byte p q in
    let kept = c.smaller-kept.ensures in
    let a = c.word_at-a in
    let b = c.word_at-b in
    let word : pair_bytes c.vector_of-vector.result c.extra_of-extra.result ≡ tab (λ (j : ℕ). f (8 * i + j)) 8 =
    (λ t. pair_bytes ((c.vector_of-vector.ensures ∙ ap vector_of kept) t) ((c.extra_of-extra.ensures ∙ ap extra_of kept) t))
    ∙ kept_word p q i a.result b.result a.ensures.0 a.ensures.1 b.ensures.0 b.ensures.1 in
    let next : 8 * i + 8 ≡ 8 * (i + 1) = omega arith in
    c.write_words.ensures ∙ fill_splice f c.loop-i.set l _ (8 * i) 8 (omega (arith, c.requires)) word c.loop-i.invariant ∙ ap (λ (m : ℕ). over (tab f m) l) next

pub returns : goal.returns
returns c =
    let e : c.loop-i.i ≡ c.args.n = omega arith in
    c.loop-i.invariant ∙ ap (λ (m : ℕ). over (tab (kept_byte c.args.first.now c.args.second.now) (8 * m)) c.args.set.now) e
