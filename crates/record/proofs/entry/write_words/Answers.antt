-- `record::entry::write_words` meets its contract: two words, one behind the other.
use Prim.Native.Nat.{ℕ, ◌+◌, ◌*◌}
use native.Mathlib.Omega.{arith}
use mathlib.Core.Path.{ap, ◌∙◌}
use mathlib.Core.List.{List}
use Rattle.arith.specs.Splice.{splice}
use Rattle.arith.specs.Splice.Laws.{splice_splice}
use Rattle.record.specs.Bytes.{u32_bytes, pair_bytes}
use Rattle.record.specs.Bytes.Laws.{length_u32_bytes}
use Rattle.record.proofs.entry.write_words.Goals as goal

pub returns : goal.returns
unfolding pair_bytes
returns c =
    let a = c.args in
    let at : ℕ = 8 * a.i in
    c.put_u32-2.ensures
    ∙ ap (λ (l : List ℕ). splice (at + 4) (u32_bytes a.extra) l) c.put_u32.ensures
    ∙ splice_splice at (u32_bytes a.vector) (u32_bytes a.extra) a.set.now (at + 4) (rw (length_u32_bytes a.vector)) (rw (length_u32_bytes a.extra) (omega (arith, c.requires)))
