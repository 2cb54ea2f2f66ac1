-- `record::fields::zero` meets its contract: the first n are filled, the rest stands behind them.
use Prim.Native.Nat.{ℕ, ◌≤◌}
use native.Mathlib.Omega.{arith}
use mathlib.Core.Path.{◌≡◌, sym, ap, ◌∙◌}
use mathlib.Core.List.{List, ◌++◌}
use lib.ListN.{length, drop, take, replicate, length-take}
use Rattle.std.proofs.lemmas.List.{length-replicate}
use Rattle.arith.specs.Splice.{over}
use Rattle.record.proofs.fields.zero.Goals as goal

-- as many as a part's first n
as_many : (n : ℕ) (l : List ℕ) → n ≤ length l → replicate {A = ℕ} (length (take n l)) 0 ≡ replicate n 0
as_many n l h = ap (λ (k : ℕ). replicate {A = ℕ} k 0) (simp length-take (omega arith))

pub returns : goal.returns
unfolding over
returns c =
    let a = c.args in
    λ i. (c.fill.ensures.after (λ y h. h) ∙ as_many a.n a.part.now c.requires) i ++ drop (sym (length-replicate {A = ℕ} a.n 0) i) a.part.now
