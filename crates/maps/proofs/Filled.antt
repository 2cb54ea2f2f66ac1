-- A buffer that is filled to its end, or by pieces that are.
use Rattle.std.specs.Prelude.{◌≡◌, ℕ, ◌+◌, ◌<◌, ◌≤◌, List, ◌++◌, length, take, drop, slice_index_or}
use Rattle.std.proofs.Common.{◌∙◌, sym, ap, refl, arith, length-take, length-drop}
use Rattle.std.proofs.lemmas.List.{drop_all}
use mathlib.Core.List.{append-nil}
use Rattle.arith.specs.Filling.{fill_length, filled_at, fill_part}
use Rattle.arith.specs.Splice.{over}
use Rattle.arith.specs.Tabulate.{tab}
use Rattle.arith.specs.Tabulate.Laws.{tab_is, length_tab, get_d_tab}

module _ {A : Type 0} where
  pub filled_whole : (d : A) (f : ℕ → A) (l l₀ : List A) (n : ℕ) → n ≡ length l₀ → l ≡ over (tab f n) l₀ → l ≡ tab f (length l₀)
  filled_whole d f l l₀ n e p = rw (← e) (tab_is d l f n (rw e (fill_length f l l₀ n (omega arith) p)) (λ k h. filled_at f l l₀ n k d p h))

  -- a value of a list that a function fills
  pub filled_value : (d : A) (f : ℕ → A) (l : List A) (n k : ℕ) → l ≡ tab f n → k < length l → slice_index_or l k d ≡ f k
  filled_value d f l n k e h = ap (λ (m : List A). slice_index_or m k d) e ∙ get_d_tab f n k d (omega (arith, ap length e, length_tab f n))

  -- the front of a buffer, filled to its end
  pub filled_front : (f : ℕ → A) (l r : List A) (n : ℕ) → n ≤ length l → r ≡ tab f (length (take n l)) → r ++ drop n l ≡ over (tab f n) l
  unfolding over
  filled_front f l r n h e =
      let m : length (take n l) ≡ n = simp length-take (omega arith) in
      rw (e, m, length_tab)

  -- a piece past the filled front, filled to its end
  pub filled_piece : (f : ℕ → A) (l l₀ r : List A) (m n : ℕ) → m + n ≤ length l₀ → l ≡ over (tab f m) l₀
      → r ≡ tab (λ (j : ℕ). f (m + j)) (length (take n (drop m l))) → take m l ++ (r ++ drop n (drop m l)) ≡ over (tab f (m + n)) l₀
  unfolding over
  filled_piece f l l₀ r m n h p e =
      let a : length l ≡ length l₀ = fill_length f l l₀ m (omega arith) p in
      let b : length (take n (drop m l)) ≡ n = simp (length-take, length-drop) (omega arith) in
      let t : List A = tab (λ (j : ℕ). f (m + j)) n in
      let q : r ≡ over t (take n (drop m l)) = e ∙ (λ i. tab (λ (j : ℕ). f (m + j)) (b i)) ∙ sym (rw (length_tab, drop_all n (take n (drop m l)) (omega arith)) (append-nil t)) in
      fill_part f l l₀ r t m n n (omega arith) (omega arith) refl p q
