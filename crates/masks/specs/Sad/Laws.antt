-- Laws of the SAD mask: a row of bytes from a row of blocks, as a row of the mask and byte by byte.
use Rattle.std.specs.Prelude.{◌≡◌, List, ℕ, ◌++◌, ◌+◌, ◌-◌, ◌*◌, ◌≤◌, ◌<◌, min, Float, length, get_or, set, take, drop, replicate}
use Rattle.std.proofs.Common.{sym, ap, ◌∙◌, arith, length-set, length-take, length-drop}
use Rattle.std.proofs.Math.ListN.{drop_of_length-le}
use Rattle.std.proofs.lemmas.List.{length-replicate, get_or-replicate}
use mathlib.Core.List.{append-nil}
use Rattle.arith.specs.Filling.{fill_next, fill_length, fill_part}
use Rattle.arith.specs.Splice.{over}
use Rattle.arith.specs.Tabulate.{tab}
use Rattle.arith.specs.Tabulate.Laws.{tab_is}
use Rattle.record.specs.Shape.{block_in}
use Rattle.levels.specs.Level.{sad_level}
use Rattle.masks.specs.Sad.{sad_at, sad_byte}

-- ---- definitions for the code

-- a table of the levels of the sads below `size`
abbrev pub SadTable : Float → ℕ → ℕ → List ℕ → Type 0
SadTable scale area size table = (k : ℕ) → k < size → get_or table k 0 ≡ sad_level scale area k

-- column x of a row of n blocks, the first of them block `first`
unfoldable pub sad_line : Float → ℕ → List ℕ → ℕ → ℕ → ℕ → ℕ
sad_line scale area set first n x = sad_level scale area (sad_at set (first + min x (n - 1)))

-- which is row y of the mask, where the row's first block is that of row y
pub sads_in_mask : (scale : Float) (area n m w y first : ℕ) (set : List ℕ) → first ≡ min y (m - 1) * n
    → tab (sad_line scale area set first n) w ≡ tab (λ (x : ℕ). sad_byte scale area n m set x y) w
unfolding sad_line sad_byte block_in
sads_in_mask scale area n m w y first set p = rw p

-- ---- byte by byte

-- the bytes of the columns below x are over the front of a row
abbrev pub Lined : Float → ℕ → List ℕ → ℕ → ℕ → List ℕ → List ℕ → ℕ → Type 0
Lined scale area sads first n row₀ row x = (length row ≡ length row₀) × (row ≡ over (tab (sad_line scale area sads first n) x) row₀)

-- one more, from the sad of the column that its block has
pub line_next : (scale : Float) (area : ℕ) (sads : List ℕ) (first n : ℕ) (row₀ row : List ℕ) (x column sad byte : ℕ) → x < length row₀
    → min x (n - 1) ≡ column → sad ≡ sad_at sads (first + column) → byte ≡ sad_level scale area sad
    → Lined scale area sads first n row₀ row x → Lined scale area sads first n row₀ (set row x byte) (x + 1)
unfolding sad_line
line_next scale area sads first n row₀ row x column sad byte h e s b p =
    let v = b ∙ ap (sad_level scale area) (s ∙ ap (λ (j : ℕ). sad_at sads (first + j)) (sym e)) in
    (length-set row x byte ∙ p.0, fill_next (sad_line scale area sads first n) row row₀ x byte h v p.1)

-- the columns past the last block's, which all have its byte
module _ (scale : Float) (area : ℕ) (sads : List ℕ) (first n w own : ℕ) (o : own ≡ min n w) (least : 1 ≤ n) where
  rest_at : (sad byte j : ℕ) → sad ≡ sad_at sads (first + (n - 1)) → byte ≡ sad_level scale area sad → j < w - own → byte ≡ sad_line scale area sads first n (own + j)
  unfolding sad_line
  rest_at sad byte j s b h =
      let e : min (own + j) (n - 1) ≡ n - 1 = omega arith in
      b ∙ ap (sad_level scale area) (s ∙ ap (λ (k : ℕ). sad_at sads (first + k)) (sym e))

  pub line_rest : (row₀ row r : List ℕ) (sad byte : ℕ) → w ≤ length row₀ → sad ≡ sad_at sads (first + (n - 1)) → byte ≡ sad_level scale area sad
      → row ≡ over (tab (sad_line scale area sads first n) own) row₀ → r ≡ replicate (length (take (w - own) (drop own row))) byte
      → take own row ++ (r ++ drop (w - own) (drop own row)) ≡ over (tab (sad_line scale area sads first n) w) row₀
  unfolding over
  line_rest row₀ row r sad byte room s b p q =
      let f = sad_line scale area sads first n in
      let same : length row ≡ length row₀ = fill_length f row row₀ own (omega arith) p in
      let part = take (w - own) (drop own row) in
      let long : length part ≡ w - own = simp (length-take, length-drop) (omega arith) in
      let long_r : length r ≡ w - own = ap length q ∙ length-replicate (length part) byte ∙ long in
      let values : r ≡ tab (λ (j : ℕ). f (own + j)) (w - own) =
      tab_is 0 r (λ (j : ℕ). f (own + j)) (w - own) long_r
      (λ j h. ap (λ (l : List ℕ). get_or l j 0) q ∙ get_or-replicate (length part) j byte 0 (omega arith) ∙ rest_at sad byte j s b h) in
      let whole : r ≡ over r part = sym (ap (λ (l : List ℕ). r ++ l) (drop_of_length-le part (omega arith)) ∙ append-nil r) in
      let e : own + (w - own) ≡ w = omega arith in
      fill_part f row row₀ r r own (w - own) (w - own) (omega arith) (omega arith) values p whole ∙ ap (λ (k : ℕ). over (tab f k) row₀) e
