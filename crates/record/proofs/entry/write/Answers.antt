-- `record::entry::write` meets its contract: its two words are those of the entry, y and x, and sad with luma.
use Prim.Native.Nat.{ℕ, ◌+◌, ◌*◌}
use native.Mathlib.Omega.{arith}
use mathlib.Core.Path.{◌≡◌, ap, ◌∙◌}
use mathlib.Core.List.{List}
use lib.IntN.{pos, nat_abs}
use mir.Syntax.{w16, w32}
use mir.Val.{to_z, of_z}
use Rattle.arith.specs.Integers.{up}
use Rattle.arith.specs.Signed.{back, natural}
use Rattle.arith.specs.Splice.{splice}
use Rattle.record.specs.declared.entry.BlockVector.{BlockVector}
use Rattle.record.specs.Entries.{with_entry, Holds}
use Rattle.record.specs.Entries.Laws.{bytes_words}
use Rattle.record.proofs.entry.write.Goals as goal

-- a sad within 24 bits, as the code reads it
sad_is : (v : BlockVector) → Holds v → to_z w32 (of_z w32 v.sad) ≡ pos (up v.sad)
sad_is v h = let m = h.sad_most_lem in natural h.sad_is (omega arith)

pub overflow_cast-sad : goal.overflow_cast-sad
overflow_cast-sad c = rw (sad_is c.args.v c.requires.1) (tt, record { fits = let h = c.requires.1.sad_most_lem in omega arith })

pub overflow_add-extra : goal.overflow_add-extra
overflow_add-extra c = let h = c.requires.1.sad_most_lem in let k = c.wide.ensures.1 in rw (ap nat_abs (sad_is c.args.v c.requires.1)) (record { fits = omega arith })

pub write_words-requires : goal.write_words-requires
write_words-requires c = c.requires.0

pub returns : goal.returns
unfolding with_entry
returns c =
    let v = c.args.v in
    let h = c.requires.1 in
    let p : ℕ = c.bits16.result + 65536 * c.bits16-2.result in
    let e : ℕ = nat_abs (to_z w32 (of_z w32 v.sad)) + 16777216 * c.wide.result in
    let words =
    bytes_words v p e h
    (λ j. (c.bits16.ensures.0 ∙ ap (of_z w16) (back w16 h.y)) j + 65536 * (c.bits16-2.ensures.0 ∙ ap (of_z w16) (back w16 h.x)) j)
    (λ j. nat_abs (sad_is v h j) + 16777216 * c.wide.ensures.0 j) in
    c.write_words.ensures ∙ ap (λ (b : List ℕ). splice (8 * c.args.i) b c.args.set.now) words
