-- Laws of a block's corner: by the bits of x and y, as code tests it, and the four products of a block that has one.
use Rattle.std.specs.Prelude.{◌≡◌, refl, ◌≢◌, Bool, true, false, cond, Some, None, ◌&&◌, List, ℕ, ◌+◌, ◌-◌, ◌≤◌, ◌<◌, ℤ, ◌+ℤ◌, ◌*ℤ◌}
use Rattle.std.proofs.Common.{sym, ◌∙◌, mul-le-mul_right, arith, SFits}
use Rattle.std.proofs.Math.Path.{ap}
use Rattle.std.proofs.Math.IntN.{pos}
use Rattle.std.specs.Bool.{then_some}
use Rattle.std.specs.Int.{w32}
use Rattle.std.proofs.lemmas.Option.{same_Some, none-some}
use Rattle.arith.specs.Booleans.{and_both, cond_true}
use Rattle.arith.specs.Integers.{up, dn, sum_z}
use Rattle.arith.specs.Wrap.{res}
use Rattle.arith.specs.Wrap.Laws.{bits_natural, bits_below}
use Rattle.record.specs.declared.shape.FieldShape.{FieldShape}
use Rattle.record.specs.Shape.{step_x_of, step_y_of, width_of, height_of, stride_of, trash_of, grid_size}
use Rattle.scatter.specs.Block.{r_of, l_of, cell_x, cell_y}
use Rattle.scatter.specs.Cells.{inside, index_of, place_of, corners_of, products_of, cells_from}
use Rattle.scatter.specs.Cells.Laws.{inside_facts, inside_of, place_of_lem}
use Rattle.scatter.specs.Added.{plus, added}
use Rattle.fast.specs.Corner.{corner_of, corner_at}
use Rattle.fast.specs.Held.{four}

-- ---- by the bits of x and y

-- both cells are inside: x + 1 and y + 1 are below W and H
together : (s : FieldShape) (x y : ℤ) → inside s x y ≡ true → inside s (x +ℤ pos 1) (y +ℤ pos 1) ≡ true
    → (x ≡ pos (up x)) × (y ≡ pos (up y)) × (up x + 1 < width_of s) × (up y + 1 < height_of s)
together s x y e f =
    let a = inside_facts s x y e in
    let b = inside_facts s (x +ℤ pos 1) (y +ℤ pos 1) f in
    let xs = sum_z x (pos 1) in
    let ys = sum_z y (pos 1) in
    let xb = b.x_below in
    let yb = b.y_below in (
      a.x_is,
      a.y_is,
      omega (arith, ap dn a.x_is, ap dn b.x_is),
      omega (arith, ap dn a.y_is, ap dn b.y_is),
    )

corner_cases : (s : FieldShape) (x y : ℤ) (P : ℕ → Type 0)
    → ((x ≡ pos (up x)) → (y ≡ pos (up y)) → (up x + 1 < width_of s) → (up y + 1 < height_of s) → P (index_of s (up x) (up y))) → P 0 → P (corner_of s x y)
unfolding corner_of
corner_cases s x y P f z = go (inside s x y) (inside s (x +ℤ pos 1) (y +ℤ pos 1)) refl refl
  where
    go : (a b : Bool) → inside s x y ≡ a → inside s (x +ℤ pos 1) (y +ℤ pos 1) ≡ b → P (cond (a && b) (index_of s (up x) (up y)) 0)
    go true true e g = let t = together s x y e g in f t.0 t.1 t.2 t.3
    go true false e g = z
    go false b e g = z

-- a column or a row too far, or none
pub corner_left : (s : FieldShape) (x y : ℤ) → SFits w32 x → width_of s - 1 ≤ res x → 0 ≡ corner_of s x y
corner_left s x y f h =
    corner_cases s x y (λ n. 0 ≡ n) (λ a b c d. let e = bits_natural x f a in let z : ⊥ = omega arith in absurd z) refl

pub corner_above : (s : FieldShape) (x y : ℤ) → SFits w32 y → height_of s - 1 ≤ res y → 0 ≡ corner_of s x y
corner_above s x y f h =
    corner_cases s x y (λ n. 0 ≡ n) (λ a b c d. let e = bits_natural y f b in let z : ⊥ = omega arith in absurd z) refl

pub corner_in : (s : FieldShape) (x y : ℤ) → SFits w32 x → SFits w32 y → width_of s ≤ 2147483648 → height_of s ≤ 2147483648
    → res x < width_of s - 1 → res y < height_of s - 1 → index_of s (res x) (res y) ≡ corner_of s x y
unfolding corner_of
corner_in s x y f g m n h k =
    let xe = bits_below x f (omega arith) in
    let ye = bits_below y g (omega arith) in
    (λ i. index_of s (sym (ap up xe) i) (sym (ap up ye) i))
    ∙ sym
    (cond_true (inside s x y && inside s (x +ℤ pos 1) (y +ℤ pos 1)) (index_of s (up x) (up y)) 0
    (and_both (inside s x y) (inside s (x +ℤ pos 1) (y +ℤ pos 1))
    ((λ i. inside s (xe i) (ye i)) ∙ inside_of s (res x) (res y) (omega arith) (omega arith))
    ((λ i. inside s (xe i +ℤ pos 1) (ye i +ℤ pos 1)) ∙ inside_of s (res x + 1) (res y + 1) (omega arith) (omega arith))))

-- no cell has index 0
index_above : (s : FieldShape) (a b n : ℕ) → n ≡ index_of s a b → n ≢ 0
unfolding index_of
index_above s a b n e z = omega arith

-- the code's answer is the corner's index, or `None` for 0
module _ (s : FieldShape) (x y : ℤ) where
  pub corner_none : 0 ≡ corner_of s x y → None ≡ corner_at s x y
  unfolding corner_of corner_at
  corner_none = go (inside s x y && inside s (x +ℤ pos 1) (y +ℤ pos 1))
    where
      go : (t : Bool) → 0 ≡ cond t (index_of s (up x) (up y)) 0 → None ≡ then_some t (index_of s (up x) (up y))
      go true e = absurd (index_above s (up x) (up y) 0 e refl)
      go false e = refl

  pub corner_some : (n a b : ℕ) → n ≡ index_of s a b → n ≡ corner_of s x y → Some n ≡ corner_at s x y
  unfolding corner_of corner_at
  corner_some n a b i e = go (inside s x y && inside s (x +ℤ pos 1) (y +ℤ pos 1)) e
    where
      go : (t : Bool) → n ≡ cond t (index_of s (up x) (up y)) 0 → Some n ≡ then_some t (index_of s (up x) (up y))
      go true q = ap Some q
      go false q = absurd (index_above s a b n i q)

  pub corner_found : (n : ℕ) → corner_at s x y ≡ Some n → (n ≡ corner_of s x y) × (corner_of s x y ≢ 0)
  unfolding corner_of corner_at
  corner_found n = go (inside s x y && inside s (x +ℤ pos 1) (y +ℤ pos 1))
    where
      go : (t : Bool) → then_some t (index_of s (up x) (up y)) ≡ Some n → (n ≡ cond t (index_of s (up x) (up y)) 0) × (cond t (index_of s (up x) (up y)) 0 ≢ 0)
      go true e = (sym (same_Some (index_of s (up x) (up y)) n e), index_above s (up x) (up y) _ refl)
      go false e = absurd (none-some n e)

-- ---- a block that has a corner

pub corner_below : (s : FieldShape) (x y : ℤ) → corner_of s x y ≢ 0 → corner_of s x y + 1 + stride_of s < grid_size s
unfolding grid_size trash_of stride_of index_of
corner_below s x y =
    corner_cases s x y (λ n. n ≢ 0 → n + 1 + stride_of s < grid_size s)
    (λ a b c d ne. let m = mul-le-mul_right (width_of s + 2) d in omega arith)
    (λ ne. absurd (ne refl))

index_right : (s : FieldShape) (a b : ℕ) → index_of s (a + 1) b ≡ index_of s a b + 1
unfolding index_of
index_right s a b = omega arith

index_below : (s : FieldShape) (a b : ℕ) → index_of s a (b + 1) ≡ index_of s a b + stride_of s
unfolding index_of
index_below s a b = omega arith

module _ (s : FieldShape) (x y : ℤ) (v0 v1 v2 v3 : ℤ) (g : List ℤ) where
  -- four products at the places of a block's cells
  abbrev placed : List ℤ
  placed = plus (plus (plus (plus g (place_of s x y) v0) (place_of s (x +ℤ pos 1) y) v1) (place_of s (x +ℤ pos 1) (y +ℤ pos 1)) v2) (place_of s x (y +ℤ pos 1)) v3

  -- inside, the places lie together
  placed_inside : (a b : ℕ) → x ≡ pos a → y ≡ pos b → a + 1 < width_of s → b + 1 < height_of s → placed ≡ four (stride_of s) (index_of s a b) v0 v1 v2 v3 g
  unfolding four
  placed_inside a b e f h k =
      let p0 : place_of s x y ≡ index_of s a b = (λ i. place_of s (e i) (f i)) ∙ place_of_lem s a b (omega arith) (omega arith) in
      let p1 : place_of s (x +ℤ pos 1) y ≡ index_of s a b + 1 =
      (λ i. place_of s (e i +ℤ pos 1) (f i)) ∙ place_of_lem s (a + 1) b h (omega arith) ∙ index_right s a b
      in
      let p2 : place_of s (x +ℤ pos 1) (y +ℤ pos 1) ≡ index_of s a b + 1 + stride_of s =
      (λ i. place_of s (e i +ℤ pos 1) (f i +ℤ pos 1)) ∙ place_of_lem s (a + 1) (b + 1) h k ∙ index_below s (a + 1) b ∙ ap (λ (n : ℕ). n + stride_of s) (index_right s a b)
      in
      let p3 : place_of s x (y +ℤ pos 1) ≡ index_of s a b + stride_of s =
      (λ i. place_of s (e i) (f i +ℤ pos 1)) ∙ place_of_lem s a (b + 1) (omega arith) k ∙ index_below s a b
      in
      λ i. plus (plus (plus (plus g (p0 i) v0) (p1 i) v1) (p2 i) v2) (p3 i) v3

  four_corners : corner_of s x y ≢ 0 → placed ≡ four (stride_of s) (corner_of s x y) v0 v1 v2 v3 g
  four_corners =
      corner_cases s x y (λ n. n ≢ 0 → placed ≡ four (stride_of s) n v0 v1 v2 v3 g) (λ a b c d ne. placed_inside (up x) (up y) a b c d)
      (λ ne. absurd (ne refl))

pub cells_four : (s : FieldShape) (bx by : ℕ) (tx ty : ℤ) (g : List ℤ) → corner_of s (cell_x s bx tx) (cell_y s by ty) ≢ 0
    → added g (cells_from s bx by tx ty)
    ≡ four (stride_of s) (corner_of s (cell_x s bx tx) (cell_y s by ty))
    (r_of (step_y_of s) ty *ℤ r_of (step_x_of s) tx)
    (r_of (step_y_of s) ty *ℤ l_of s.block_w (step_x_of s) tx)
    (l_of s.block_h (step_y_of s) ty *ℤ l_of s.block_w (step_x_of s) tx)
    (r_of (step_x_of s) tx *ℤ l_of s.block_h (step_y_of s) ty) g
unfolding added cells_from corners_of products_of
cells_four s bx by tx ty g ne = four_corners s (cell_x s bx tx) (cell_y s by ty) _ _ _ _ g ne
