-- `scatter::plain::clear` meets its contract: zeros over the front.
use Rattle.std.proofs.Common.{◌≡◌, ℕ, zero, suc, ◌≤◌, List, [], ◌∷◌, ◌++◌, ℤ, pos, length, take, drop, replicate, refl, sym, ap, ◌∙◌, length-take-le, add-one}
use Rattle.std.proofs.lemmas.List.{replicate_more}
use Rattle.arith.specs.Splice.{over}
use Rattle.arith.specs.Tabulate.{tab}
use Rattle.arith.specs.Tabulate.Laws.{length_tab}
use Rattle.scatter.specs.Grid.{zeros}
use Rattle.scatter.proofs.plain.clear.Goals as goal

zeros_are : (n : ℕ) → replicate n (pos 0) ≡ zeros n
unfolding tab
zeros_are zero = refl
zeros_are (suc n) =
    sym (replicate_more n (pos 0) ∙ ap (λ (k : ℕ). replicate k (pos 0)) (add-one n)) ∙ ap (λ (l : List ℤ). l ++ (pos 0 ∷ [])) (zeros_are n)

filled : (n : ℕ) (l z : List ℤ) → n ≤ length l → z ≡ replicate (length (take n l)) (pos 0) → z ++ drop n l ≡ over (zeros n) l
unfolding over
filled n l z h e =
    ap (λ (x : List ℤ). x ++ drop n l) (e ∙ ap (λ (k : ℕ). replicate k (pos 0)) (length-take-le n l h) ∙ zeros_are n)
    ∙ ap (λ (k : ℕ). zeros n ++ drop k l) (sym (length_tab (λ _. pos 0) n))

pub returns : goal.returns
returns c = filled c.args.size c.args.grid.now c.fill.new.self c.requires (c.fill.ensures.after (λ y e. e))
