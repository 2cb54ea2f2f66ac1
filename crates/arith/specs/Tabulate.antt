-- A list by its function: f 0, f 1, .., f (n - 1); and a function of columns and rows, numbered row by row.
use Rattle.std.specs.Prelude.{ℕ, zero, suc, ◌/◌, ◌%◌, List, [], ◌∷◌, ◌++◌}
pub mod Laws

unfoldable pub tab : {A : Type 0} → (ℕ → A) → ℕ → List A
tab f zero = []
tab f (suc n) = tab f n ++ (f n ∷ [])

-- the value of number k, where g gives that of a column and a row, of w columns
unfoldable pub by_rows : {A : Type 0} → (ℕ → ℕ → A) → ℕ → ℕ → A
by_rows g w k = g (k % w) (k / w)
