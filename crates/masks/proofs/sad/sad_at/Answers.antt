-- `masks::sad::sad_at` meets its contract: a sad is 24 bits of three bytes.
use Rattle.std.specs.Prelude.{◌≡◌, List, ℕ, ◌<◌, pos, nat_abs, ℤ, get_or}
use Rattle.std.proofs.Common.{sym, ap, subst, arith, Fits, to_z, of_z}
use Rattle.std.specs.Int.{w8, w32}
use Rattle.arith.specs.Signed.{read}
use Rattle.record.specs.Entries.{entry_at}
use Rattle.record.specs.Entries.Again.{entry_holds}
use Rattle.masks.specs.Sad.{sad_at}
use Rattle.masks.proofs.sad.sad_at.Goals as goal

module _ (set : List ℕ) (i : ℕ) (h : (k : ℕ) → Fits w8 (get_or set k 0)) where
  bytes_fit : sad_at set i < 16777216
  unfolding sad_at
  bytes_fit = (entry_holds set i (λ k. (h k).fits)).sad_most_lem

  sad_is : (r : ℤ) → r ≡ (entry_at set i).sad → to_z w32 (of_z w32 r) ≡ pos (sad_at set i)
  unfolding sad_at entry_at
  sad_is r e = let f = bytes_fit in read w32 e (record { sfits = omega arith })

pub overflow_cast-result : goal.overflow_cast-result
overflow_cast-result c =
    let a = c.args in
    let h = bytes_fit a.set.now a.i c.type_inv.set in
    rw (sad_is a.set.now a.i c.type_inv.set c.sad_at.result c.sad_at.ensures) (tt, record { fits = omega arith })

pub returns : goal.returns
returns c =
    let a = c.args in
    let e = ap nat_abs (sad_is a.set.now a.i c.type_inv.set c.sad_at.result c.sad_at.ensures) in
    (e, subst (λ (n : ℕ). n < 16777216) (sym e) (bytes_fit a.set.now a.i c.type_inv.set))
