-- A buffer that a loop fills from the front, value by value or row by row, with the values of a function.
use Rattle.std.specs.Prelude.{◌≡◌, ℕ, zero, suc, ◌+◌, ◌*◌, ◌/◌, ◌%◌, ◌<◌, ◌≤◌, List, [], ◌∷◌, ◌++◌, length, get_or, take, drop, set, slice_index_or, slice_set}
use Rattle.std.proofs.Math.Path.{refl, sym, ap}
use Rattle.std.proofs.Common.{◌∙◌, add-one, add-zero, add-suc, add-mul, mul-le-mul_right, arith, ext_get_or}
use mathlib.Core.List.{append_assoc, append-nil}
use Rattle.std.proofs.Math.Decide.{dec_lt}
use Rattle.std.proofs.Math.Arith.{digits_div, digits_mod}
use Rattle.arith.specs.Splice.{over, splice}
use Rattle.arith.specs.Splice.Laws.{length_over, over_front, over_past, over_snoc, over_over, over_longer, take_over, splice_over, part_written}
use Rattle.arith.specs.Tabulate.{tab, by_rows}
use Rattle.arith.specs.Tabulate.Laws.{length_tab, get_d_tab, tab_same, tab_suc}

module _ {A : Type 0} where
  -- nothing filled
  pub fill_start : (f : ℕ → A) (l : List A) → l ≡ over (tab f 0) l
  unfolding over tab
  fill_start f l = refl

  -- one more value stored
  pub fill_next : (f : ℕ → A) (l l₀ : List A) (i : ℕ) (v : A) → i < length l₀ → v ≡ f i → l ≡ over (tab f i) l₀ → slice_set l i v ≡ over (tab f (i + 1)) l₀
  fill_next f l l₀ i v h e p =
      (λ j. set (p j) i (e j))
      ∙ over_snoc (tab f i) l₀ (f i) i (length_tab f i) h
      ∙ ap (λ (t : List A). over t l₀) (sym (tab_suc f i) ∙ ap (tab f) (sym (add-one i)))

  -- a filled buffer keeps its length
  pub fill_length : (f : ℕ → A) (l l₀ : List A) (n : ℕ) → n ≤ length l₀ → l ≡ over (tab f n) l₀ → length l ≡ length l₀
  fill_length f l l₀ n h p = ap length p ∙ length_over (tab f n) l₀ (rw (length_tab f n) h)

  -- a value that is filled
  pub filled_at : (f : ℕ → A) (l l₀ : List A) (n k : ℕ) (d : A) → l ≡ over (tab f n) l₀ → k < n → slice_index_or l k d ≡ f k
  filled_at f l l₀ n k d p h =
      ap (λ (m : List A). get_or m k d) p ∙ over_front (tab f n) l₀ k d (rw (length_tab f n) h) ∙ get_d_tab f n k d h

  -- and one past them
  pub filled_past : (f : ℕ → A) (l l₀ : List A) (n k : ℕ) (d : A) → l ≡ over (tab f n) l₀ → n ≤ k → slice_index_or l k d ≡ slice_index_or l₀ k d
  filled_past f l l₀ n k d p h = ap (λ (m : List A). get_or m k d) p ∙ over_past (tab f n) l₀ k d (rw (length_tab f n) h)

  -- a buffer with the values of f in front and its own past them is filled
  pub filled_is : (d : A) (f : ℕ → A) (n : ℕ) (l l₀ : List A) → n ≤ length l₀ → length l ≡ length l₀ → ((k : ℕ) → k < n → slice_index_or l k d ≡ f k)
      → ((k : ℕ) → n ≤ k → slice_index_or l k d ≡ slice_index_or l₀ k d) → l ≡ over (tab f n) l₀
  filled_is d f n l l₀ h e p q =
      ext_get_or d l (over (tab f n) l₀) (e ∙ sym (length_over (tab f n) l₀ (rw (length_tab f n) h))) (λ k m. at k (dec_lt k n))
    where
      at : (k : ℕ) → Dec (k < n) → slice_index_or l k d ≡ slice_index_or (over (tab f n) l₀) k d
      at k (yes i) = p k i ∙ sym (filled_at f (over (tab f n) l₀) l₀ n k d refl i)
      at k (no i) = let j : n ≤ k = omega arith in q k j ∙ sym (filled_past f (over (tab f n) l₀) l₀ n k d refl j)

  -- filled again, as far
  pub fill_again : (f g : ℕ → A) (n : ℕ) (l : List A) → over (tab f n) (over (tab g n) l) ≡ over (tab f n) l
  fill_again f g n l = over_over (tab f n) (tab g n) l (length_tab f n ∙ sym (length_tab g n))

  -- ---- row by row

  -- the first m values, and n more
  tab_more : (f : ℕ → A) (m n : ℕ) → tab f (m + n) ≡ tab f m ++ tab (λ (k : ℕ). f (m + k)) n
  unfolding tab
  tab_more f m zero = ap (λ (k : ℕ). tab f k) (add-zero m) ∙ sym (append-nil (tab f m))
  tab_more f m (suc n) =
      ap (λ (k : ℕ). tab f k) (add-suc m n)
      ∙ ap (λ (l : List A). l ++ (f (m + n) ∷ [])) (tab_more f m n)
      ∙ append_assoc (tab f m) (tab (λ (k : ℕ). f (m + k)) n) (f (m + n) ∷ [])

  -- n more values in the place of as many past the first m
  pub fill_splice : (f : ℕ → A) (l l₀ t : List A) (m n : ℕ) → m ≤ length l₀ → t ≡ tab (λ (j : ℕ). f (m + j)) n → l ≡ over (tab f m) l₀ → splice m t l ≡ over (tab f (m + n)) l₀
  fill_splice f l l₀ t m n h e p =
      splice_over m t l (rw (fill_length f l l₀ m h p) h)
      ∙ (λ i. over (front i ++ e i) (p i))
      ∙ ap (λ (v : List A). over v (over (tab f m) l₀)) (sym (tab_more f m n))
      ∙ over_longer (tab f (m + n)) (tab f m) l₀ (rw (length_tab f m, length_tab f (m + n)) (omega arith))
    where
      front : take m l ≡ tab f m
      front = ap (take m) p ∙ take_over (tab f m) l₀ m (length_tab f m)

  -- the same, stored over the front of a part that starts past the first m
  pub fill_part : (f : ℕ → A) (l l₀ r t : List A) (m n k : ℕ) → m ≤ length l₀ → n ≤ length (take k (drop m l)) → t ≡ tab (λ (j : ℕ). f (m + j)) n
      → l ≡ over (tab f m) l₀ → r ≡ over t (take k (drop m l)) → take m l ++ (r ++ drop k (drop m l)) ≡ over (tab f (m + n)) l₀
  fill_part f l l₀ r t m n k h fits e p q =
      part_written m k t l r (rw (ap length e ∙ length_tab (λ (j : ℕ). f (m + j)) n) fits) q ∙ fill_splice f l l₀ t m n h e p

-- ---- rows of w values, numbered row by row

-- rows that lie within n values
pub rows_within : (y h w n : ℕ) → y < h → h * w ≤ n → y * w + w ≤ n
rows_within y h w n p q = let a : (y + 1) * w ≤ h * w = mul-le-mul_right w (omega arith) in omega (arith, add-mul y 1 w)

pub next_row : (y w : ℕ) → y * w + w ≡ (y + 1) * w
next_row y w = omega (arith, add-mul y 1 w)

module _ {A : Type 0} (g : ℕ → ℕ → A) (w : ℕ) where
  -- one row's values, as they are numbered: value x of row y has number y × w + x
  pub row_numbered : (y row : ℕ) → row ≡ y * w → tab (λ x. g x y) w ≡ tab (λ x. by_rows g w (row + x)) w
  unfolding by_rows
  row_numbered y row e =
      tab_same _ _ w
      (λ x h.
      let p : row + x ≡ y * w + x = ap (λ (n : ℕ). n + x) e in
      sym ((λ i. g ((p i) % w) ((p i) / w)) ∙ (λ i. g (digits_mod y h i) (digits_div y h i))))
