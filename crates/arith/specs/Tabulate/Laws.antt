-- Laws of a list by its function.
use Rattle.std.specs.Prelude.{◌≡◌, ℕ, zero, suc, ◌<◌, ◌≢◌, List, [], ◌∷◌, ◌++◌, length, get_or, slice_index_or, slice_set}
use Rattle.std.proofs.Math.Path.{refl, sym, ap}
use Rattle.std.proofs.Common.{◌∙◌, add-one, length-append, length-set, get_or-set_same, get_or-set_other, ext_get_or}
use Rattle.std.proofs.Math.Decide.{dec_lt, ℕ_discrete}
use native.Mathlib.Omega.{arith}
use Rattle.std.proofs.Math.ListN.{get_or-append}
use Rattle.std.proofs.Math.Seq.{get_or_at}
use Rattle.arith.specs.Tabulate.{tab}

module _ {A : Type 0} where
  pub tab_zero : (f : ℕ → A) → tab f 0 ≡ []
  unfolding tab
  tab_zero f = refl

  pub tab_suc : (f : ℕ → A) (n : ℕ) → tab f (suc n) ≡ tab f n ++ (f n ∷ [])
  unfolding tab
  tab_suc f n = refl

  pub length_tab : (f : ℕ → A) (n : ℕ) → length (tab f n) ≡ n
  unfolding tab
  length_tab f zero = refl
  length_tab f (suc n) = simp (length-append, length_tab f n) (add-one n)

  -- the value at k
  pub get_d_tab : (f : ℕ → A) (n k : ℕ) (d : A) → k < n → slice_index_or (tab f n) k d ≡ f k
  unfolding tab
  get_d_tab f zero k d h = absurd (omega arith)
  get_d_tab f (suc n) k d h = go (λ l. get_d_tab f n k d l) (dec_lt k n)
    where
      go : (k < n → slice_index_or (tab f n) k d ≡ f k) → Dec (k < n) → slice_index_or (tab f n ++ (f n ∷ [])) k d ≡ f k
      go ih (yes l) = get_or-append (tab f n) _ d k (rw (length_tab f n) l) ∙ ih l
      go ih (no l) =
          let e : k ≡ n = omega arith in
          get_or_at (tab f n) (f n) [] d k (length_tab f n ∙ sym e) ∙ ap f (sym e)

  -- two functions that agree below n give one list
  pub tab_same : (f g : ℕ → A) (n : ℕ) → ((k : ℕ) → k < n → f k ≡ g k) → tab f n ≡ tab g n
  unfolding tab
  tab_same f g zero h = refl
  tab_same f g (suc n) h = rw (tab_same f g n (λ k l. h k (omega arith)), h n (omega arith))

  -- a list is tabulated by any function that gives its values
  pub tab_is : (d : A) (l : List A) (f : ℕ → A) (n : ℕ) → length l ≡ n → ((k : ℕ) → k < n → slice_index_or l k d ≡ f k) → l ≡ tab f n
  tab_is d l f n e h =
      ext_get_or d l (tab f n) (e ∙ sym (length_tab f n)) (λ k m. let p : k < n = omega arith in h k p ∙ sym (get_d_tab f n k d p))

  -- two functions that agree but at b: one value is set
  pub tab_set : (d : A) (f g : ℕ → A) (n b : ℕ) → ((k : ℕ) → k ≢ b → g k ≡ f k) → tab g n ≡ slice_set (tab f n) b (g b)
  tab_set d f g n b h =
      sym
      (tab_is d (slice_set (tab f n) b (g b)) g n (length-set (tab f n) b (g b) ∙ length_tab f n)
      (λ k l. at k l (ℕ_discrete k b)))
    where
      at : (k : ℕ) → k < n → Dec (k ≡ b) → slice_index_or (slice_set (tab f n) b (g b)) k d ≡ g k
      at k l (yes e) =
          ap (λ (j : ℕ). get_or (slice_set (tab f n) b (g b)) j d) e
          ∙ get_or-set_same (tab f n) b (g b) d (let q = length_tab f n in omega arith)
          ∙ ap g (sym e)
      at k l (no e) = get_or-set_other (tab f n) b k (g b) d e ∙ get_d_tab f n k d l ∙ sym (h k e)
