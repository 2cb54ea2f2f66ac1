-- Laws of a mask that is made row by row: a row that lies within, one more row, and all of them.
use Rattle.std.specs.Prelude.{◌≡◌, refl, List, ◌++◌, ℕ, ◌+◌, ◌-◌, ◌*◌, ◌≤◌, ◌<◌, length, take, drop}
use Rattle.std.proofs.Common.{sym, ap, ◌∙◌, subst, mul_comm, zero-mul, arith, length-take, length-drop}
use Rattle.arith.specs.Filling.{fill_start, fill_length, fill_part, rows_within, next_row, row_numbered}
use Rattle.arith.specs.Splice.{over}
use Rattle.arith.specs.Tabulate.{tab, by_rows}

-- ---- row by row

-- y of h rows are over the front of a mask; the next one begins at `row`
pub record Rowed (g : ℕ → ℕ → ℕ) (w h : ℕ) (mask₀ mask : List ℕ) (row y : ℕ) : Type 0 where
  pub most : y ≤ h
  pub row_is : row ≡ y * w
  pub same : length mask ≡ length mask₀
  pub filled : mask ≡ over (tab (by_rows g w) row) mask₀

pub rows_start : (g : ℕ → ℕ → ℕ) (w h : ℕ) (mask : List ℕ) → Rowed g w h mask mask 0 0
rows_start g w h mask = record { most = omega arith; row_is = sym (zero-mul w); same = refl; filled = fill_start (by_rows g w) mask }

module _ {g : ℕ → ℕ → ℕ} {w h : ℕ} {mask₀ mask : List ℕ} {row y : ℕ} (m : Rowed g w h mask₀ mask row y) where
  pub row_fits : h * w ≤ length mask₀ → y < h → row + w ≤ length mask
  row_fits room l = omega (arith, m.row_is, m.same, rows_within y h w (length mask₀) l room)

  -- what a call wrote of row y over the front of the part that starts there
  pub row_next : h * w ≤ length mask₀ → (r t : List ℕ) → y < h → t ≡ tab (λ (x : ℕ). g x y) w → r ≡ over t (take (length mask - row) (drop row mask))
      → Rowed g w h mask₀ (take row mask ++ (r ++ drop (length mask - row) (drop row mask))) (row + w) (y + 1)
  row_next room r t l e q =
      let f = row_fits room l in
      let s = m.same in
      let p = fill_part (by_rows g w) mask mask₀ r t row w (length mask - row) (omega arith) (simp (length-take, length-drop) (omega arith))
      (e ∙ row_numbered g w y row m.row_is) m.filled q in
      record {
        most = omega arith;
        row_is = ap (λ (n : ℕ). n + w) m.row_is ∙ next_row y w;
        same = fill_length (by_rows g w) _ mask₀ (row + w) (omega arith) p;
        filled = p;
      }

  pub rows_done : y ≡ h → mask ≡ over (tab (by_rows g w) (w * h)) mask₀
  rows_done e = m.filled ∙ ap (λ (n : ℕ). over (tab (by_rows g w) n) mask₀) (m.row_is ∙ ap (λ (n : ℕ). n * w) e ∙ mul_comm h w)

-- ---- where row y begins at y × w

pub lines_start : (g : ℕ → ℕ → ℕ) (w h : ℕ) (mask : List ℕ) → Rowed g w h mask mask (0 * w) 0
lines_start g w h mask = rw (zero-mul w) (rows_start g w h mask)

pub line_next : {g : ℕ → ℕ → ℕ} {w h : ℕ} {mask₀ mask : List ℕ} {y : ℕ} → Rowed g w h mask₀ mask (y * w) y → h * w ≤ length mask₀ → (r t : List ℕ) → y < h
    → t ≡ tab (λ (x : ℕ). g x y) w → r ≡ over t (take (length mask - y * w) (drop (y * w) mask))
    → Rowed g w h mask₀ (take (y * w) mask ++ (r ++ drop (length mask - y * w) (drop (y * w) mask))) ((y + 1) * w) (y + 1)
line_next {g} {w} {h} {mask₀} {mask} {y} m room r t l e q =
    subst (λ (n : ℕ). Rowed g w h mask₀ (take (y * w) mask ++ (r ++ drop (length mask - y * w) (drop (y * w) mask))) n (y + 1)) (next_row y w)
    (row_next m room r t l e q)
