-- A list with other values in the place of as many of its own: what a call writes into a lent buffer, with all else as it was.
use Rattle.std.specs.Prelude.{ℕ, ◌+◌, List, ◌++◌, length, take, drop}
pub mod Laws

-- l with vs in the place of its first values; what lies past them (surplus) stays
unfoldable pub over : {A : Type 0} → List A → List A → List A
over vs l = vs ++ drop (length vs) l

-- l with vs in the place of its values from `at` on
unfoldable pub splice : {A : Type 0} → ℕ → List A → List A → List A
splice at vs l = take at l ++ (vs ++ drop (at + length vs) l)
