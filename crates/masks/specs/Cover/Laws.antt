-- Laws of the cover mask: nine cells as three sums of columns, what is covered as an i32, rows of bytes as the mask, and a mask by its cells.
use Rattle.std.specs.Prelude.{◌≡◌, refl, Bool, true, false, cond, List, ℕ, ◌+◌, ◌*◌, ◌/◌, ◌%◌, ◌≤◌, ◌<◌, ℤ, pos, negsuc, ◌+ℤ◌, Float, length, get_or, take, drop}
use Rattle.std.proofs.Common.{sym, ap, ◌∙◌, le_refl, mul_comm, mod-lt, div-lt_iff_lt-mul, arith, length-take, length-drop, get_or-take, get_or-drop, SFits}
use Rattle.std.proofs.Math.Arith.{digits_lt}
use Rattle.std.specs.Int.Signed.{lt_z}
use Rattle.std.specs.Int.{w32, int_min}
use Rattle.arith.specs.Booleans.{cond_elim}
use Rattle.arith.specs.Filling.{filled_at, next_row}
use Rattle.arith.specs.Integers.{up, dn, eq_z, sum_z, lt_z_true, lt_z_false}
use Rattle.arith.specs.Splice.{over}
use Rattle.arith.specs.Tabulate.{tab, by_rows}
use Rattle.arith.specs.Tabulate.Laws.{tab_same}
use Rattle.arith.specs.Wrap.{wrap32}
use Rattle.arith.specs.Wrap.Laws.{wrap_fits, wrap_sum, wrap_sum_right}
use Rattle.levels.specs.Level.{cover_level}
use Rattle.masks.specs.Cover.{three_of, nine_of, eighth_of, covered_of, cover_byte, cover_row, line_of, cover_at, cover_bytes}

-- ---- definitions for the code's three passes

-- the value of a list at an index
abbrev pub value_at : List ℤ → ℕ → ℤ
value_at g k = get_or g k (pos 0)

-- the sum of three cells, one below the other
unfoldable pub column_sum : List ℤ → List ℤ → List ℤ → ℕ → ℤ
column_sum above middle below i = wrap32 (value_at above i +ℤ value_at middle i +ℤ value_at below i)

-- what is covered of a cell, from the sums of three columns from x on
unfoldable pub covered_at : ℕ → List ℤ → ℕ → ℤ
covered_at area column x = covered_of area (wrap32 (three_of (value_at column) x))

-- w bytes of three rows of w + 2 cells, the first from index `at` on
unfoldable pub line_bytes : Float → ℕ → (ℕ → ℤ) → ℕ → ℕ → List ℕ
line_bytes scale area cell at w =
    cover_row scale area (λ (x : ℕ). cell (at + x)) (λ (x : ℕ). cell (at + (w + 2) + x)) (λ (x : ℕ). cell (at + (w + 2) + (w + 2) + x)) w

-- a table of the levels of 0 to area covered
abbrev pub CoverTable : Float → ℕ → List ℕ → Type 0
CoverTable scale area table = (k : ℕ) → k ≤ area → get_or table k 0 ≡ cover_level scale area (pos k)

-- the first w values are what can be covered
abbrev pub Covers : ℕ → List ℤ → ℕ → Type 0
Covers area cover w = (x : ℕ) → x < w → (up (value_at cover x) ≤ area) × (dn (value_at cover x) ≤ 268435456)

-- ---- what is covered

below_area : (z : ℤ) (area : ℕ) → lt_z z (pos area) ≡ true → up z ≤ area
below_area (pos n) area e = omega (arith, lt_z_true (pos n) (pos area) e)
below_area (negsuc n) area e = omega arith

-- the lesser of two, whichever is compared with the other
least_is : (x y : ℤ) → int_min x y ≡ cond (lt_z x y) x y
least_is x y = go (lt_z y x) (lt_z x y) refl refl
  where
    go : (s t : Bool) → lt_z y x ≡ s → lt_z x y ≡ t → cond s y x ≡ cond t x y
    go true true e f = let z : ⊥ = omega (arith, lt_z_true y x e, lt_z_true x y f) in absurd z
    go true false e f = refl
    go false true e f = refl
    go false false e f = eq_z (omega (arith, lt_z_false y x e, lt_z_false x y f))

pub covered_min : (area : ℕ) (s : ℤ) → int_min (eighth_of s) (pos area) ≡ covered_of area s
unfolding covered_of
covered_min area s = least_is (eighth_of s) (pos area)

pub covered_most : (area : ℕ) (s : ℤ) → up (covered_of area s) ≤ area
unfolding covered_of
covered_most area s =
    cond_elim (λ (z : ℤ). up z ≤ area) (lt_z (eighth_of s) (pos area)) (eighth_of s) (pos area) (below_area (eighth_of s) area) (λ e. le_refl area)

low : (s : ℤ) → SFits w32 s → dn (eighth_of s) ≤ 268435456
unfolding eighth_of
low (pos n) f = omega arith
low (negsuc n) f = let h : n < 2147483648 = f.sfits in omega arith

pub covered_least : (area : ℕ) (s : ℤ) → SFits w32 s → dn (covered_of area s) ≤ 268435456
unfolding covered_of
covered_least area s f =
    cond_elim (λ (z : ℤ). dn z ≤ 268435456) (lt_z (eighth_of s) (pos area)) (eighth_of s) (pos area) (λ e. low s f) (λ e. omega arith)

-- ---- nine cells

-- three wrapped sums of columns are the wrapped sum of the nine cells
wrap_three : (a b c : ℤ) → wrap32 (wrap32 a +ℤ wrap32 b +ℤ wrap32 c) ≡ wrap32 (a +ℤ b +ℤ c)
wrap_three a b c =
    wrap_sum_right (wrap32 a +ℤ wrap32 b) c
    ∙ sym (wrap_sum (wrap32 a +ℤ wrap32 b) c)
    ∙ ap (λ (z : ℤ). wrap32 (z +ℤ c)) (wrap_sum_right (wrap32 a) b ∙ wrap_sum a b)
    ∙ wrap_sum (a +ℤ b) c

regroup : (a b c d e f g h i : ℤ) → (a +ℤ d +ℤ g) +ℤ (b +ℤ e +ℤ h) +ℤ (c +ℤ f +ℤ i) ≡ (a +ℤ b +ℤ c) +ℤ (d +ℤ e +ℤ f) +ℤ (g +ℤ h +ℤ i)
regroup a b c d e f g h i =
    eq_z
    (omega (
      arith,
      sum_z (a +ℤ d +ℤ g +ℤ (b +ℤ e +ℤ h)) (c +ℤ f +ℤ i),
      sum_z (a +ℤ d +ℤ g) (b +ℤ e +ℤ h),
      sum_z (a +ℤ d) g,
      sum_z a d,
      sum_z (b +ℤ e) h,
      sum_z b e,
      sum_z (c +ℤ f) i,
      sum_z c f,
      sum_z (a +ℤ b +ℤ c +ℤ (d +ℤ e +ℤ f)) (g +ℤ h +ℤ i),
      sum_z (a +ℤ b +ℤ c) (d +ℤ e +ℤ f),
      sum_z (a +ℤ b) c,
      sum_z a b,
      sum_z (d +ℤ e) f,
      sum_z d e,
      sum_z (g +ℤ h) i,
      sum_z g h,
    ))

-- the sums of three columns, summed, are the 3 by 3 sum
nine_columns : (a m b : List ℤ) (x : ℕ) → wrap32 (three_of (column_sum a m b) x) ≡ nine_of (value_at a) (value_at m) (value_at b) x
unfolding three_of column_sum nine_of
nine_columns a m b x =
    wrap_three (value_at a x +ℤ value_at m x +ℤ value_at b x) (value_at a (x + 1) +ℤ value_at m (x + 1) +ℤ value_at b (x + 1)) (value_at a (x + 2) +ℤ value_at m (x + 2) +ℤ value_at b (x + 2))
    ∙ ap wrap32
    (regroup (value_at a x) (value_at a (x + 1)) (value_at a (x + 2)) (value_at m x) (value_at m (x + 1)) (value_at m (x + 2)) (value_at b x) (value_at b (x + 1)) (value_at b (x + 2)))

-- ---- the three passes make a row

pub covers_bounded : (area w : ℕ) (column cover cover₀ : List ℤ) → cover ≡ over (tab (covered_at area column) w) cover₀ → Covers area cover w
unfolding covered_at
covers_bounded area w column cover cover₀ e x h =
    let at = filled_at (covered_at area column) cover cover₀ w x (pos 0) e h in
    let s : ℤ = wrap32 (three_of (value_at column) x) in
    (rw at (covered_most area s), rw at (covered_least area s (wrap_fits (three_of (value_at column) x))))

pub row_made : (scale : Float) (area w : ℕ) (a m b column column₀ cover cover₀ : List ℤ) (row row₀ : List ℕ)
    → column ≡ over (tab (column_sum a m b) (w + 2)) column₀
    → cover ≡ over (tab (covered_at area column) w) cover₀
    → row ≡ over (tab (λ (x : ℕ). cover_level scale area (value_at cover x)) w) row₀
    → row ≡ over (cover_row scale area (value_at a) (value_at m) (value_at b) w) row₀
unfolding cover_row cover_byte covered_at three_of
row_made scale area w a m b column column₀ cover cover₀ row row₀ p q r =
    r ∙ ap (λ (t : List ℕ). over t row₀) (tab_same _ (cover_byte scale area (value_at a) (value_at m) (value_at b)) w (λ x h. ap (cover_level scale area) (at x h)))
  where
    sums : (x : ℕ) → x < w → three_of (value_at column) x ≡ three_of (column_sum a m b) x
    sums x h =
        simp (
          filled_at (column_sum a m b) column column₀ (w + 2) x (pos 0) p (omega arith),
          filled_at (column_sum a m b) column column₀ (w + 2) (x + 1) (pos 0) p (omega arith),
          filled_at (column_sum a m b) column column₀ (w + 2) (x + 2) (pos 0) p (omega arith),
        )

    at : (x : ℕ) → x < w → value_at cover x ≡ covered_of area (nine_of (value_at a) (value_at m) (value_at b) x)
    at x h =
        filled_at (covered_at area column) cover cover₀ w x (pos 0) q h
        ∙ ap (λ (z : ℤ). covered_of area (wrap32 z)) (sums x h)
        ∙ ap (covered_of area) (nine_columns a m b x)

-- ---- bytes by their cells

-- three rows, and three others with the same w + 2 cells
module _ (scale : Float) (area w : ℕ) (a m b a' m' b' : ℕ → ℤ) (p : (k : ℕ) → k < w + 2 → a k ≡ a' k) (q : (k : ℕ) → k < w + 2 → m k ≡ m' k) (r : (k : ℕ) → k < w + 2 → b k ≡ b' k) where
  byte_same : (x : ℕ) → x < w → cover_byte scale area a m b x ≡ cover_byte scale area a' m' b' x
  unfolding cover_byte nine_of three_of
  byte_same x h =
      simp (
        p x (omega arith),
        p (x + 1) (omega arith),
        p (x + 2) (omega arith),
        q x (omega arith),
        q (x + 1) (omega arith),
        q (x + 2) (omega arith),
        r x (omega arith),
        r (x + 1) (omega arith),
        r (x + 2) (omega arith),
      )

  row_same : cover_row scale area a m b w ≡ cover_row scale area a' m' b' w
  unfolding cover_row
  row_same = tab_same (cover_byte scale area a m b) (cover_byte scale area a' m' b') w byte_same

-- a mask's bytes are those of any grid with the same cells; trash is not one of them
pub mask_same : (scale : Float) (area w h : ℕ) (cell cell' : ℕ → ℤ) → 0 < w → ((k : ℕ) → k < (w + 2) * (h + 2) → cell k ≡ cell' k)
    → cover_bytes scale area w h cell ≡ cover_bytes scale area w h cell'
unfolding cover_bytes cover_at line_of by_rows
mask_same scale area w h cell cell' W same = tab_same _ _ (w * h) at
  where
    line : (y : ℕ) → y < h + 2 → (k : ℕ) → k < w + 2 → cell (y * (w + 2) + k) ≡ cell' (y * (w + 2) + k)
    line y p k q = same (y * (w + 2) + k) (rw (mul_comm (w + 2) (h + 2)) (digits_lt p q))

    at : (k : ℕ) → k < w * h → by_rows (cover_at scale area (w + 2) cell) w k ≡ by_rows (cover_at scale area (w + 2) cell') w k
    at k l =
        let y : k / w < h = (div-lt_iff_lt-mul W).1 (rw (mul_comm h w) l) in
        byte_same scale area w _ _ _ _ _ _ (line (k / w) (omega arith)) (line (k / w + 1) (omega arith)) (line (k / w + 2) (omega arith)) (k % w)
        (mod-lt k W)

-- ---- rows make the mask

-- the cells of a part of a list
part_cell : (g : List ℤ) (at n k : ℕ) → k < n → value_at (take n (drop at g)) k ≡ value_at g (at + k)
part_cell g at n k h = get_or-take n (drop at g) k (pos 0) h ∙ get_or-drop at g k (pos 0)

pub part_length : (g : List ℤ) (at n m : ℕ) → at + m ≤ length g → m ≤ n → m ≤ length (take n (drop at g))
part_length g at n m h l = simp (length-take, length-drop) (omega arith)

-- three parts of the grid make a row
pub line_made : (scale : Float) (area w at : ℕ) (g : List ℤ) (n m k : ℕ) → w + 2 ≤ n → w + 2 ≤ m → w + 2 ≤ k
    → cover_row scale area (value_at (take n (drop at g))) (value_at (take m (drop (at + (w + 2)) g))) (value_at (take k (drop (at + (w + 2) + (w + 2)) g))) w
    ≡ line_bytes scale area (value_at g) at w
unfolding line_bytes
line_made scale area w at g n m k p q r =
    row_same scale area w _ _ _ _ _ _ (λ i l. part_cell g at n i (omega arith)) (λ i l. part_cell g (at + (w + 2)) m i (omega arith))
    (λ i l. part_cell g (at + (w + 2) + (w + 2)) k i (omega arith))

-- which is row y of the mask, where the first of them is row y of the grid
pub line_in_mask : (scale : Float) (area w y at : ℕ) (cell : ℕ → ℤ) → at ≡ y * (w + 2)
    → line_bytes scale area cell at w ≡ tab (λ (x : ℕ). cover_at scale area (w + 2) cell x y) w
unfolding line_bytes cover_row cover_at line_of
line_in_mask scale area w y at cell p =
    let second : at + (w + 2) ≡ (y + 1) * (w + 2) = omega (arith, next_row y (w + 2)) in
    let third : at + (w + 2) + (w + 2) ≡ (y + 2) * (w + 2) = omega (arith, next_row y (w + 2), next_row (y + 1) (w + 2)) in
    rw (third, second, p)
