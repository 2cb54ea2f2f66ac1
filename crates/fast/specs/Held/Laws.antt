-- Laws of products held back: updates of single cells commute, so that holding back changes only the order.
use Rattle.std.specs.Prelude.{◌≡◌, List, ℕ, ◌+◌, ◌<◌, ℤ, ◌+ℤ◌, length}
use Rattle.std.proofs.Common.{sym, ap, ◌∙◌, subst, arith}
use Rattle.arith.specs.Wrap.{wrap32}
use Rattle.scatter.specs.declared.geometry.Cells.{Cells}
use Rattle.scatter.specs.Added.{plus, added}
use Rattle.scatter.specs.Added.Laws.{length_plus, plus_twice, plus_comm, plus_added}
use Rattle.fast.specs.declared.hold.Pending.{Pending}
use Rattle.fast.specs.Held.{paired, released, four}

-- a pair goes in with one that is already there
pub paired_twice : (S a : ℕ) (t b v w : ℤ) (g : List ℤ) → a + S < length g
    → paired S a (wrap32 (v +ℤ t)) (wrap32 (w +ℤ b)) g ≡ paired S a v w (paired S a t b g)
unfolding paired
paired_twice S a t b v w g h =
    let l : a < length g = omega arith in
    let m : a + S < length (plus (plus g a t) a v) = subst (λ (n : ℕ). a + S < n) (sym (length_plus (plus g a t) a v ∙ length_plus g a t)) h in
    ap (λ (x : List ℤ). plus x (a + S) (wrap32 (w +ℤ b))) (sym (plus_twice g a v t l))
    ∙ sym (plus_twice (plus (plus g a t) a v) (a + S) w b m)
    ∙ ap (λ (x : List ℤ). plus x (a + S) w) (plus_comm (plus g a t) a (a + S) v b)

-- the left two products and then the right two are the four
pub four_is : (S a : ℕ) (v0 v1 v2 v3 : ℤ) (g : List ℤ) → paired S (a + 1) v1 v2 (paired S a v0 v3 g) ≡ four S a v0 v1 v2 v3 g
unfolding paired four
four_is S a v0 v1 v2 v3 g =
    ap (λ (x : List ℤ). plus x (a + 1 + S) v2) (plus_comm (plus g a v0) (a + S) (a + 1) v3 v1)
    ∙ plus_comm (plus (plus g a v0) (a + 1) v1) (a + S) (a + 1 + S) v3 v2

-- a block's four go in before what is held, or after
pub released_added : (S : ℕ) (p : Pending) (g : List ℤ) (c : Cells) → released S p (added g c) ≡ added (released S p g) c
unfolding released paired
released_added S p g c =
    ap (λ (x : List ℤ). plus x (p.at + S) p.bottom) (plus_added g p.at p.top c)
    ∙ plus_added (plus g p.at p.top) (p.at + S) p.bottom c
