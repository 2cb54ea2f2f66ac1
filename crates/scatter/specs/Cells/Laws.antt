-- Laws of a block's four cells: each lies in the grid, and its products together are the block's area.
use Rattle.std.specs.Prelude.{◌≡◌, refl, Bool, true, ◌&&◌, List, ℕ, ◌+◌, ◌*◌, ◌≤◌, ◌<◌, ℤ, pos, ◌+ℤ◌, ◌*ℤ◌}
use Rattle.std.proofs.Common.{sym, ap, ◌∙◌, subst, mul-le-mul_right, arith, SFits}
use Rattle.std.proofs.Math.Arith.{digits_div, digits_mod}
use Rattle.std.proofs.Math.IntN.{*ℤ_comm}
use Rattle.std.specs.Int.Signed.{le_z, lt_z}
use Rattle.std.specs.Int.{w32}
use Rattle.arith.specs.Booleans.{and_left, and_right, and_both, cond_elim, cond_true}
use Rattle.arith.specs.Integers.{up, dn, eq_z, sum_z, lt_z_true, is_natural, le_z_true, lt_z_is_true, le_z_is_true, *ℤ-distl}
use Rattle.arith.specs.Wrap.{res}
use Rattle.arith.specs.Wrap.Laws.{bits_natural, bits_below}
use Rattle.record.specs.declared.shape.FieldShape.{FieldShape}
use Rattle.record.specs.Shape.{step_x_of, step_y_of, width_of, height_of, stride_of, trash_of, grid_size, area_of, column_of, row_of}
use Rattle.record.specs.Shape.Laws.{Accepted}
use Rattle.record.specs.Entries.{entry_at}
use Rattle.scatter.specs.declared.geometry.Cells.{Cells}
use Rattle.scatter.specs.Block.{t_of, r_of, l_of}
use Rattle.scatter.specs.Block.Laws.{parts}
use Rattle.scatter.specs.Cells.{inside, index_of, place_of, corners_of, products_of, cells_from, cells_of, cells_at, Within, whole_of}

-- ---- the place of a cell

-- a cell that is inside, as naturals
pub record Inside (s : FieldShape) (x y : ℤ) : Type 0 where
  pub x_is : x ≡ pos (up x)
  pub y_is : y ≡ pos (up y)
  pub x_below : up x < width_of s
  pub y_below : up y < height_of s

pub inside_facts : (s : FieldShape) (x y : ℤ) → inside s x y ≡ true → Inside s x y
unfolding inside
inside_facts s x y e =
    let a : Bool = le_z (pos 0) x in
    let b : Bool = lt_z x (pos (width_of s)) in
    let c : Bool = le_z (pos 0) y in
    let d : Bool = lt_z y (pos (height_of s)) in
    let abc : (a && b && c) ≡ true = and_left (a && b && c) d e in
    let ab : (a && b) ≡ true = and_left (a && b) c abc in
    let xl = le_z_true (pos 0) x (and_left a b ab) in
    let xm = lt_z_true x (pos (width_of s)) (and_right a b ab) in
    let yl = le_z_true (pos 0) y (and_right (a && b) c abc) in
    let ym = lt_z_true y (pos (height_of s)) (and_right (a && b && c) d e) in
    let p = is_natural x (omega arith) in
    let q = is_natural y (omega arith) in
    record { x_is = p; y_is = q; x_below = omega (arith, ap dn p); y_below = omega (arith, ap dn q) }

-- a place is trash, or the index of a column below W and a row below H
place_cases : (s : FieldShape) (x y : ℤ) (P : ℕ → Type 0) → P (trash_of s) → (Inside s x y → P (index_of s (up x) (up y))) → P (place_of s x y)
unfolding place_of
place_cases s x y P t f = cond_elim P (inside s x y) (index_of s (up x) (up y)) (trash_of s) (λ e. f (inside_facts s x y e)) (λ e. t)

pub inside_of : (s : FieldShape) (a b : ℕ) → a < width_of s → b < height_of s → inside s (pos a) (pos b) ≡ true
unfolding inside
inside_of s a b h k =
    and_both _ _
    (and_both _ _ (and_both _ _ (le_z_is_true (pos 0) (pos a) (omega arith)) (lt_z_is_true (pos a) (pos (width_of s)) (omega arith))) (le_z_is_true (pos 0) (pos b) (omega arith)))
    (lt_z_is_true (pos b) (pos (height_of s)) (omega arith))

pub place_of_lem : (s : FieldShape) (a b : ℕ) → a < width_of s → b < height_of s → place_of s (pos a) (pos b) ≡ index_of s a b
unfolding place_of
place_of_lem s a b h k = cond_true (inside s (pos a) (pos b)) _ _ (inside_of s a b h k)

place_below : (s : FieldShape) (x y : ℤ) → place_of s x y < grid_size s
unfolding grid_size trash_of stride_of index_of
place_below s x y =
    place_cases s x y (λ k. k < grid_size s) (omega arith)
    (λ i. let h = i.x_below in let m = mul-le-mul_right (width_of s + 2) i.y_below in omega arith)

-- ---- the place by the bits of x and y, as code tests it

pub place_left : (s : FieldShape) (x y : ℤ) → SFits w32 x → width_of s ≤ res x → place_of s x y ≡ trash_of s
place_left s x y f h =
    place_cases s x y (λ k. k ≡ trash_of s) refl (λ i. let z : ⊥ = omega (arith, bits_natural x f i.x_is, i.x_below) in absurd z)

pub place_above : (s : FieldShape) (x y : ℤ) → SFits w32 y → height_of s ≤ res y → place_of s x y ≡ trash_of s
place_above s x y f h =
    place_cases s x y (λ k. k ≡ trash_of s) refl (λ i. let z : ⊥ = omega (arith, bits_natural y f i.y_is, i.y_below) in absurd z)

pub place_inside : (s : FieldShape) (x y : ℤ) → SFits w32 x → SFits w32 y → width_of s ≤ 2147483648 → height_of s ≤ 2147483648
    → res x < width_of s → res y < height_of s → place_of s x y ≡ index_of s (res x) (res y)
place_inside s x y f g m n h k =
    (λ i. place_of s (bits_below x f (omega arith) i) (bits_below y g (omega arith) i)) ∙ place_of_lem s (res x) (res y) h k

-- ---- the four

pub within_more : (c : Cells) (m n : ℕ) → m ≤ n → Within c m → Within c n
within_more c m n h w = record { at0 = omega arith; at1 = omega arith; at2 = omega arith; at3 = omega arith }

from_within : (s : FieldShape) (bx by : ℕ) (tx ty : ℤ) → Within (cells_from s bx by tx ty) (grid_size s)
unfolding cells_from corners_of
from_within s bx by tx ty = record { at0 = place_below s _ _; at1 = place_below s _ _; at2 = place_below s _ _; at3 = place_below s _ _ }

-- and so in a list that has room for the grid
pub from_room : (s : FieldShape) (bx by : ℕ) (tx ty : ℤ) (c : Cells) (n : ℕ) → c ≡ cells_from s bx by tx ty → grid_size s ≤ n → Within c n
from_room s bx by tx ty c n e h = subst (λ (q : Cells). Within q n) (sym e) (within_more _ (grid_size s) n h (from_within s bx by tx ty))

pub cells_within : (s : FieldShape) (T : ℤ) (i : ℕ) (x y : ℤ) → Within (cells_of s T i x y) (grid_size s)
unfolding cells_of
cells_within s T i x y = from_within s (column_of s i) (row_of s i) (t_of s T x) (t_of s T y)

pub at_within : (s : FieldShape) (T : ℤ) (set : List ℕ) (i : ℕ) → Within (cells_at s T set i) (grid_size s)
unfolding cells_at
at_within s T set i = cells_within s T i (entry_at set i).x (entry_at set i).y

-- the block at a column and a row, with its entry's vector
pub at_place : (s : FieldShape) (T : ℤ) (set : List ℕ) (row column n : ℕ) (x y : ℤ) → n ≡ up s.grid_w → column < n
    → x ≡ (entry_at set (row * n + column)).x → y ≡ (entry_at set (row * n + column)).y
    → cells_from s column row (t_of s T x) (t_of s T y) ≡ cells_at s T set (row * n + column)
unfolding cells_at cells_of column_of row_of
at_place s T set row column n x y e h f g =
    let l : column < up s.grid_w = omega arith in
    λ i.
    cells_from s
    (sym (ap (λ (m : ℕ). column_of s (row * m + column)) e ∙ digits_mod row l) i)
    (sym (ap (λ (m : ℕ). row_of s (row * m + column)) e ∙ digits_div row l) i)
    (t_of s T (f i))
    (t_of s T (g i))

-- ---- the four products together

square : (a b c d : ℤ) → c *ℤ a +ℤ c *ℤ b +ℤ d *ℤ b +ℤ a *ℤ d ≡ (a +ℤ b) *ℤ (c +ℤ d)
square a b c d =
    (λ i. c *ℤ a +ℤ c *ℤ b +ℤ d *ℤ b +ℤ *ℤ_comm a d i)
    ∙ regroup (c *ℤ a) (c *ℤ b) (d *ℤ a) (d *ℤ b)
    ∙ (λ i. sym (*ℤ-distl c a b) i +ℤ sym (*ℤ-distl d a b) i)
    ∙ (λ i. *ℤ_comm c (a +ℤ b) i +ℤ *ℤ_comm d (a +ℤ b) i)
    ∙ sym (*ℤ-distl (a +ℤ b) c d)
  where
    regroup : (p q r t : ℤ) → p +ℤ q +ℤ t +ℤ r ≡ p +ℤ q +ℤ (r +ℤ t)
    regroup p q r t = eq_z (omega (arith, sum_z (p +ℤ q +ℤ t) r, sum_z (p +ℤ q) t, sum_z (p +ℤ q) (r +ℤ t), sum_z r t))

from_whole : (s : FieldShape) (bx by : ℕ) (tx ty : ℤ) → whole_of (cells_from s bx by tx ty) ≡ s.block_w *ℤ s.block_h
unfolding cells_from products_of whole_of
from_whole s bx by tx ty =
    square (r_of (step_x_of s) tx) (l_of s.block_w (step_x_of s) tx) (r_of (step_y_of s) ty) (l_of s.block_h (step_y_of s) ty)
    ∙ (λ i. parts s.block_w (step_x_of s) tx i *ℤ parts s.block_h (step_y_of s) ty i)

pub at_whole : (s : FieldShape) (T : ℤ) (set : List ℕ) (i : ℕ) → Accepted s → whole_of (cells_at s T set i) ≡ pos (area_of s)
unfolding cells_at cells_of area_of
at_whole s T set i a =
    from_whole s (column_of s i) (row_of s i) (t_of s T (entry_at set i).x) (t_of s T (entry_at set i).y)
    ∙ (λ j. a.x.block_range.is j *ℤ a.y.block_range.is j)
