-- Laws of adding and removing: what each does to one cell, that surplus stays, and that updates commute on any contents.
use Rattle.std.specs.Prelude.{◌≡◌, refl, ◌≢◌, Bool, true, false, cond, List, [], ◌∷◌, eqb, ℤ, pos, neg_ℤ, ◌+ℤ◌, ◌-ℤ◌, length, get_or}
use Rattle.std.proofs.Common.{sym, ◌∙◌, subst, add_assoc, add-zero, zero-add, zero-mul, add-one, arith, length-set, get_or-set_same, get_or-set_other, set-set, SFits, to_z, of_z, eq-eqb, ne_eqb}
use Rattle.std.proofs.Math.Path.{ap}
use Prim.Native.Nat.{ℕ, zero, suc, ◌+◌, ◌*◌, ◌≤◌, ◌<◌}
use Rattle.std.proofs.Math.Decide.{ℕ_discrete, dec_lt}
use Rattle.std.proofs.Math.IntN.{+ℤ_idr, +ℤ_comm, +ℤ_assoc, neg_ℤ-+ℤ}
use Rattle.std.proofs.Math.ListN.{set}
use Rattle.std.proofs.lemmas.List.{set_comm}
use Rattle.std.proofs.Math.Seq.{set_out}
use Rattle.std.specs.Int.{w32}
use Rattle.arith.specs.Booleans.{cond_elim, cond_true, cond_false}
use Rattle.arith.specs.Filling.{next_row}
use Rattle.arith.specs.Integers.{up, eq_z, sum_z}
use Rattle.arith.specs.Signed.{back}
use Rattle.arith.specs.Splice.{over}
use Rattle.arith.specs.Splice.Laws.{over_front, set_over}
use Rattle.arith.specs.Wrap.{wrap32}
use Rattle.arith.specs.Wrap.Laws.{wrap_sum, wrap_sum_right, wrapped_read}
use Rattle.record.specs.declared.entry.BlockVector.{BlockVector}
use Rattle.record.specs.declared.shape.FieldShape.{FieldShape}
use Rattle.record.specs.Shape.{grid_size}
use Rattle.scatter.specs.declared.geometry.Cells.{Cells}
use Rattle.scatter.specs.Cells.{cells_of, cells_at, at_of, value_of, Within}
use Rattle.scatter.specs.Cells.Laws.{cells_within}
use Rattle.scatter.specs.Added.{plus, minus, changed, added, removed, added_run, row_added, patched}
use Rattle.scatter.specs.Grid.{hit, gives, total}

-- ---- lengths

pub length_plus : (g : List ℤ) (a : ℕ) (v : ℤ) → length (plus g a v) ≡ length g
unfolding plus
length_plus g a v = length-set g a _

length_minus : (g : List ℤ) (a : ℕ) (v : ℤ) → length (minus g a v) ≡ length g
unfolding minus
length_minus g a v = length-set g a _

length_added : (g : List ℤ) (c : Cells) → length (added g c) ≡ length g
unfolding added
length_added g c = simp length_plus

pub length_removed : (g : List ℤ) (c : Cells) → length (removed g c) ≡ length g
unfolding removed
length_removed g c = simp length_minus

pub length_patched : (s : FieldShape) (T : ℤ) (i : ℕ) (old new : BlockVector) (g : List ℤ) → length (patched s T i old new g) ≡ length g
unfolding patched
length_patched s T i old new g = simp (length_added, length_removed)

pub length_run : (f : ℕ → Cells) (i n : ℕ) (g : List ℤ) → length (added_run f i n g) ≡ length g
unfolding added_run
length_run f i zero g = refl
length_run f i (suc n) g = length_added _ (f (i + n)) ∙ length_run f i n g

-- ---- removing is adding the negated products

negated : Cells → Cells
negated c =
    record {
      at = c.at;
      value = neg_ℤ (value_of c 0) ∷ neg_ℤ (value_of c 1) ∷ neg_ℤ (value_of c 2) ∷ neg_ℤ (value_of c 3) ∷ [];
    }

minus_is : (g : List ℤ) (a : ℕ) (v : ℤ) → minus g a v ≡ plus g a (neg_ℤ v)
unfolding plus minus
minus_is g a v = refl

removed_is : (g : List ℤ) (c : Cells) → removed g c ≡ added g (negated c)
unfolding removed added negated
removed_is g c = simp minus_is

negated_within : (c : Cells) (n : ℕ) → Within c n → Within (negated c) n
unfolding negated
negated_within c n w = record { at0 = w.at0; at1 = w.at1; at2 = w.at2; at3 = w.at3 }

-- ---- updates commute

-- two products for one cell go in as one
pub plus_twice : (g : List ℤ) (a : ℕ) (v w : ℤ) → a < length g → plus (plus g a w) a v ≡ plus g a (wrap32 (v +ℤ w))
unfolding plus
plus_twice g a v w h =
    let z = get_or g a (pos 0) in
    rw (get_or-set_same g a _ (pos 0) h, set-set)
    (ap (set g a)
    (wrap_sum (z +ℤ w) v ∙ ap wrap32 (+ℤ_assoc z w v ∙ ap (λ (x : ℤ). z +ℤ x) (+ℤ_comm w v)) ∙ sym (wrap_sum_right z (v +ℤ w))))

pub plus_comm : (g : List ℤ) (a b : ℕ) (v w : ℤ) → plus (plus g a v) b w ≡ plus (plus g b w) a v
unfolding plus
plus_comm g a b v w = go (ℕ_discrete a b)
  where
    out : Dec (a < length g) → plus (plus g a v) a w ≡ plus (plus g a w) a v
    out (yes h) = plus_twice g a w v h ∙ ap (λ (z : ℤ). plus g a (wrap32 z)) (+ℤ_comm w v) ∙ sym (plus_twice g a v w h)
    out (no h) = let k : length g ≤ a = omega arith in rw (set_out g a _ k, set_out g a _ k, set_out g a _ k)

    go : Dec (a ≡ b) → plus (plus g a v) b w ≡ plus (plus g b w) a v
    go (yes e) = subst (λ (j : ℕ). plus (plus g a v) j w ≡ plus (plus g j w) a v) e (out (dec_lt a (length g)))
    go (no n) =
        ap (set (plus g a v) b) (ap (λ (z : ℤ). wrap32 (z +ℤ w)) (get_or-set_other g a b _ (pos 0) (λ e. n (sym e))))
        ∙ set_comm g a b _ _ n
        ∙ ap (set (plus g b w) a) (ap (λ (z : ℤ). wrap32 (z +ℤ v)) (sym (get_or-set_other g b a _ (pos 0) n)))

-- what passes each of a block's four updates passes all four
past_four : (F : List ℤ → List ℤ) (c : Cells) (g : List ℤ)
    → ((j : ℕ) (l : List ℤ) → F (plus l (at_of c j) (value_of c j)) ≡ plus (F l) (at_of c j) (value_of c j)) → F (added g c) ≡ added (F g) c
unfolding added
past_four F c g q =
    let p : ℕ → List ℤ → List ℤ = λ j l. plus l (at_of c j) (value_of c j) in
    q 3 (p 2 (p 1 (p 0 g)))
    ∙ ap (p 3) (q 2 (p 1 (p 0 g)))
    ∙ ap (λ (l : List ℤ). p 3 (p 2 l)) (q 1 (p 0 g))
    ∙ ap (λ (l : List ℤ). p 3 (p 2 (p 1 l))) (q 0 g)

-- one update before a block's four, or after
pub plus_added : (g : List ℤ) (a : ℕ) (v : ℤ) (c : Cells) → plus (added g c) a v ≡ added (plus g a v) c
plus_added g a v c = past_four (λ (l : List ℤ). plus l a v) c g (λ j l. plus_comm l (at_of c j) a (value_of c j) v)

-- ---- two blocks, and two patches, in either order: request 13 of paper 02 is to cite these (docs/DECISIONS.md)

added_comm : (g : List ℤ) (c d : Cells) → added (added g c) d ≡ added (added g d) c
added_comm g c d = past_four (λ (l : List ℤ). added l d) c g (λ j l. sym (plus_added l (at_of c j) (value_of c j) d))

patched_is : (s : FieldShape) (T : ℤ) (i : ℕ) (old new : BlockVector) (g : List ℤ)
    → patched s T i old new g ≡ added (added g (negated (cells_of s T i old.x old.y))) (cells_of s T i new.x new.y)
unfolding patched
patched_is s T i old new g = ap (λ (m : List ℤ). added m (cells_of s T i new.x new.y)) (removed_is g (cells_of s T i old.x old.y))

-- on any contents
pub patched_comm : (s : FieldShape) (T : ℤ) (i j : ℕ) (a b c d : BlockVector) (g : List ℤ)
    → patched s T i a b (patched s T j c d g) ≡ patched s T j c d (patched s T i a b g)
patched_comm s T i j a b c d g =
    let p : Cells = negated (cells_of s T i a.x a.y) in
    let q : Cells = cells_of s T i b.x b.y in
    let r : Cells = negated (cells_of s T j c.x c.y) in
    let t : Cells = cells_of s T j d.x d.y in
    patched_is s T i a b (patched s T j c d g)
    ∙ ap (λ (m : List ℤ). added (added m p) q) (patched_is s T j c d g)
    ∙ swap p q r t
    ∙ ap (λ (m : List ℤ). added (added m r) t) (sym (patched_is s T i a b g))
    ∙ sym (patched_is s T j c d (patched s T i a b g))
  where
    swap : (p q r t : Cells) → added (added (added (added g r) t) p) q ≡ added (added (added (added g p) q) r) t
    swap p q r t =
        ap (λ (m : List ℤ). added m q) (added_comm (added g r) t p)
        ∙ ap (λ (m : List ℤ). added (added m t) q) (added_comm g r p)
        ∙ added_comm (added (added g p) r) t q
        ∙ ap (λ (m : List ℤ). added m t) (added_comm (added g p) r q)

-- ---- one cell

pub hit_same : (a : ℕ) (v : ℤ) → hit a a v ≡ v
unfolding hit
hit_same a v = cond_true (eqb a a) v (pos 0) (eq-eqb a a refl)

pub hit_other : (a k : ℕ) (v : ℤ) → k ≢ a → hit a k v ≡ pos 0
unfolding hit
hit_other a k v h = cond_false (eqb a k) v (pos 0) (ne_eqb a k (λ e. h (sym e)))

pub hit_nothing : (a k : ℕ) → hit a k (pos 0) ≡ pos 0
unfolding hit
hit_nothing a k = cond_elim (λ (z : ℤ). z ≡ pos 0) (eqb a k) (pos 0) (pos 0) (λ e. refl) (λ e. refl)

hit_neg : (a k : ℕ) (v : ℤ) → hit a k (neg_ℤ v) ≡ neg_ℤ (hit a k v)
unfolding hit
hit_neg a k v = go (eqb a k)
  where
    go : (b : Bool) → cond b (neg_ℤ v) (pos 0) ≡ neg_ℤ (cond b v (pos 0))
    go true = refl
    go false = refl

gives_negated : (c : Cells) (k : ℕ) → gives (negated c) k ≡ neg_ℤ (gives c k)
unfolding gives negated
gives_negated c k =
    (λ i.
    hit_neg (at_of c 0) k (value_of c 0) i
    +ℤ hit_neg (at_of c 1) k (value_of c 1) i
    +ℤ hit_neg (at_of c 2) k (value_of c 2) i
    +ℤ hit_neg (at_of c 3) k (value_of c 3) i)
    ∙ four (hit (at_of c 0) k (value_of c 0)) (hit (at_of c 1) k (value_of c 1)) (hit (at_of c 2) k (value_of c 2)) (hit (at_of c 3) k (value_of c 3))
  where
    four : (a b c d : ℤ) → neg_ℤ a +ℤ neg_ℤ b +ℤ neg_ℤ c +ℤ neg_ℤ d ≡ neg_ℤ (a +ℤ b +ℤ c +ℤ d)
    four a b c d = sym (neg_ℤ-+ℤ (a +ℤ b +ℤ c) d ∙ ap (λ (z : ℤ). z +ℤ neg_ℤ d) (neg_ℤ-+ℤ (a +ℤ b) c ∙ ap (λ (z : ℤ). z +ℤ neg_ℤ c) (neg_ℤ-+ℤ a b)))

plus_at : (g : List ℤ) (a k : ℕ) (v y : ℤ) → a < length g → get_or g k (pos 0) ≡ wrap32 y → get_or (plus g a v) k (pos 0) ≡ wrap32 (y +ℤ hit a k v)
unfolding plus
plus_at g a k v y h e = go (ℕ_discrete k a)
  where
    go : Dec (k ≡ a) → get_or (plus g a v) k (pos 0) ≡ wrap32 (y +ℤ hit a k v)
    go (yes p) =
        ap (λ (j : ℕ). get_or (plus g a v) j (pos 0)) p
        ∙ get_or-set_same g a _ (pos 0) h
        ∙ ap (λ (z : ℤ). wrap32 (z +ℤ v)) (ap (λ (j : ℕ). get_or g j (pos 0)) (sym p) ∙ e)
        ∙ wrap_sum y v
        ∙ ap (λ (z : ℤ). wrap32 (y +ℤ z)) (sym (hit_same a v) ∙ ap (λ (j : ℕ). hit a j v) (sym p))
    go (no n) =
        get_or-set_other g a k _ (pos 0) n
        ∙ e
        ∙ ap wrap32 (sym (+ℤ_idr y))
        ∙ ap (λ (z : ℤ). wrap32 (y +ℤ z)) (sym (hit_other a k v n))

-- a cell that is y modulo 2^32 is then y with what the block gives
pub added_at : (g : List ℤ) (c : Cells) (k : ℕ) (y : ℤ) → Within c (length g) → get_or g k (pos 0) ≡ wrap32 y
    → get_or (added g c) k (pos 0) ≡ wrap32 (y +ℤ gives c k)
unfolding added gives
added_at g c k y w e =
    let h : ℕ → ℤ = λ j. hit (at_of c j) k (value_of c j) in
    let p : ℕ → List ℤ → List ℤ = λ j l. plus l (at_of c j) (value_of c j) in
    let g1 : List ℤ = p 0 g in
    let g2 : List ℤ = p 1 g1 in
    let g3 : List ℤ = p 2 g2 in
    plus_at g3 (at_of c 3) k (value_of c 3) (y +ℤ h 0 +ℤ h 1 +ℤ h 2) (simp length_plus w.at3)
    (plus_at g2 (at_of c 2) k (value_of c 2) (y +ℤ h 0 +ℤ h 1) (simp length_plus w.at2)
    (plus_at g1 (at_of c 1) k (value_of c 1) (y +ℤ h 0) (simp length_plus w.at1) (plus_at g (at_of c 0) k (value_of c 0) y w.at0 e)))
    ∙ ap wrap32 (five y (h 0) (h 1) (h 2) (h 3))
  where
    five : (y a b c d : ℤ) → y +ℤ a +ℤ b +ℤ c +ℤ d ≡ y +ℤ (a +ℤ b +ℤ c +ℤ d)
    five y a b c d =
        eq_z
        (omega (
          arith,
          sum_z (y +ℤ a +ℤ b +ℤ c) d,
          sum_z (y +ℤ a +ℤ b) c,
          sum_z (y +ℤ a) b,
          sum_z y a,
          sum_z y (a +ℤ b +ℤ c +ℤ d),
          sum_z (a +ℤ b +ℤ c) d,
          sum_z (a +ℤ b) c,
          sum_z a b,
        ))

pub removed_at : (g : List ℤ) (c : Cells) (k : ℕ) (y : ℤ) → Within c (length g) → get_or g k (pos 0) ≡ wrap32 y
    → get_or (removed g c) k (pos 0) ≡ wrap32 (y -ℤ gives c k)
removed_at g c k y w e =
    ap (λ (l : List ℤ). get_or l k (pos 0)) (removed_is g c)
    ∙ added_at g (negated c) k y (negated_within c (length g) w) e
    ∙ ap (λ (z : ℤ). wrap32 (y +ℤ z)) (gives_negated c k)

-- a run of blocks at once
pub run_at : (f : ℕ → Cells) (i n : ℕ) (g : List ℤ) (k : ℕ) (y : ℤ) → ((j : ℕ) → j < n → Within (f (i + j)) (length g)) → get_or g k (pos 0) ≡ wrap32 y
    → get_or (added_run f i n g) k (pos 0) ≡ wrap32 (y +ℤ total f i n k)
unfolding added_run total
run_at f i zero g k y w e = e ∙ ap wrap32 (sym (+ℤ_idr y))
run_at f i (suc n) g k y w e =
    added_at (added_run f i n g) (f (i + n)) k (y +ℤ total f i n k)
    (subst (Within (f (i + n))) (sym (length_run f i n g)) (w n (omega arith)))
    (run_at f i n g k y (λ j l. w j (omega arith)) e)
    ∙ ap wrap32 (+ℤ_assoc y (total f i n k) (gives (f (i + n)) k))

-- ---- runs one after the other

pub run_none : (f : ℕ → Cells) (i : ℕ) (g : List ℤ) → added_run f i 0 g ≡ g
unfolding added_run
run_none f i g = refl

pub run_next : (f : ℕ → Cells) (i n : ℕ) (g : List ℤ) → added_run f i (n + 1) g ≡ added (added_run f i n g) (f (i + n))
unfolding added_run
run_next f i n g = ap (λ (m : ℕ). added_run f i m g) (add-one n)

pub run_join : (f : ℕ → Cells) (i m n : ℕ) (g : List ℤ) → added_run f (i + m) n (added_run f i m g) ≡ added_run f i (m + n) g
unfolding added_run
run_join f i m zero g = ap (λ (j : ℕ). added_run f i j g) (sym (add-zero m))
run_join f i m (suc n) g =
    let e : suc (m + n) ≡ m + suc n = omega arith in
    (λ j. added (run_join f i m n g j) (f (add_assoc i m n j))) ∙ ap (λ (j : ℕ). added_run f i j g) e

-- the rows before a row, from block 0 on
module _ (s : FieldShape) (T : ℤ) (set : List ℕ) where
  pub rows_none : (g : List ℤ) → added_run (cells_at s T set) 0 (0 * up s.grid_w) g ≡ g
  rows_none g = ap (λ (n : ℕ). added_run (cells_at s T set) 0 n g) (zero-mul (up s.grid_w)) ∙ run_none (cells_at s T set) 0 g

  rows_next : (row : ℕ) (g : List ℤ)
      → row_added s T set row (added_run (cells_at s T set) 0 (row * up s.grid_w) g) ≡ added_run (cells_at s T set) 0 ((row + 1) * up s.grid_w) g
  unfolding row_added
  rows_next row g =
      let f : ℕ → Cells = cells_at s T set in
      let w : ℕ = up s.grid_w in
      ap (λ (i : ℕ). added_run f i w (added_run f 0 (row * w) g)) (sym (zero-add (row * w)))
      ∙ run_join f 0 (row * w) w g
      ∙ ap (λ (n : ℕ). added_run f 0 n g) (next_row row w)

  -- what a loop over the rows makes of l, which holds those before `row`
  pub rows_step : (row : ℕ) (g l r : List ℤ) → l ≡ added_run (cells_at s T set) 0 (row * up s.grid_w) g → r ≡ row_added s T set row l
      → r ≡ added_run (cells_at s T set) 0 ((row + 1) * up s.grid_w) g
  rows_step row g l r e h = h ∙ ap (row_added s T set row) e ∙ rows_next row g

  pub rows_length : (row : ℕ) (g l : List ℤ) → l ≡ added_run (cells_at s T set) 0 (row * up s.grid_w) g → length l ≡ length g
  rows_length row g l e = ap length e ∙ length_run (cells_at s T set) 0 (row * up s.grid_w) g

-- ---- surplus stays

plus_over : (v l : List ℤ) (a : ℕ) (x : ℤ) → a < length v → plus (over v l) a x ≡ over (plus v a x) l
unfolding plus
plus_over v l a x h = ap (λ (z : ℤ). set (over v l) a (wrap32 (z +ℤ x))) (over_front v l a (pos 0) h) ∙ set_over v l a _ h

added_over : (v l : List ℤ) (c : Cells) → Within c (length v) → added (over v l) c ≡ over (added v c) l
unfolding added
added_over v l c w =
    let p : ℕ → List ℤ → List ℤ = λ j m. plus m (at_of c j) (value_of c j) in
    ap (λ (m : List ℤ). p 3 (p 2 (p 1 m))) (plus_over v l (at_of c 0) (value_of c 0) w.at0)
    ∙ ap (λ (m : List ℤ). p 3 (p 2 m)) (plus_over (p 0 v) l (at_of c 1) (value_of c 1) (simp length_plus w.at1))
    ∙ ap (p 3) (plus_over (p 1 (p 0 v)) l (at_of c 2) (value_of c 2) (simp length_plus w.at2))
    ∙ plus_over (p 2 (p 1 (p 0 v))) l (at_of c 3) (value_of c 3) (simp length_plus w.at3)

removed_over : (v l : List ℤ) (c : Cells) → Within c (length v) → removed (over v l) c ≡ over (removed v c) l
removed_over v l c w =
    removed_is (over v l) c
    ∙ added_over v l (negated c) (negated_within c (length v) w)
    ∙ ap (λ (m : List ℤ). over m l) (sym (removed_is v c))

-- a patch of a grid with surplus is the patched grid with that surplus
pub patched_over : (s : FieldShape) (T : ℤ) (i : ℕ) (old new : BlockVector) (v l : List ℤ) → length v ≡ grid_size s
    → patched s T i old new (over v l) ≡ over (patched s T i old new v) l
unfolding patched
patched_over s T i old new v l e =
    let p : Cells = cells_of s T i old.x old.y in
    let q : Cells = cells_of s T i new.x new.y in
    ap (λ (m : List ℤ). added m q) (removed_over v l p (subst (Within p) (sym e) (cells_within s T i old.x old.y)))
    ∙ added_over (removed v p) l q (subst (Within q) (sym (length_removed v p ∙ e)) (cells_within s T i new.x new.y))

pub run_over : (f : ℕ → Cells) (i n : ℕ) (v l : List ℤ) → ((j : ℕ) → j < n → Within (f (i + j)) (length v))
    → added_run f i n (over v l) ≡ over (added_run f i n v) l
unfolding added_run
run_over f i zero v l w = refl
run_over f i (suc n) v l w =
    ap (λ (m : List ℤ). added m (f (i + n))) (run_over f i n v l (λ j h. w j (omega arith)))
    ∙ added_over (added_run f i n v) l (f (i + n)) (subst (Within (f (i + n))) (sym (length_run f i n v)) (w n (omega arith)))

-- ---- updates as code makes them, whether it adds or takes away

-- one cell, by an operation modulo 2^32
pub set_wrapped : (op : ℤ → ℤ → ℤ) (g : List ℤ) (a : ℕ) (v r : ℤ) → SFits w32 (get_or g a (pos 0)) → SFits w32 v
    → r ≡ wrap32 (op (to_z w32 (of_z w32 (get_or g a (pos 0)))) (to_z w32 (of_z w32 v)))
    → set g a (to_z w32 (of_z w32 r)) ≡ set g a (wrap32 (op (get_or g a (pos 0)) v))
set_wrapped op g a v r f h e = ap (set g a) (wrapped_read op f h e)

-- one more of the four changed
pub changed_next : (op : ℤ → ℤ → ℤ) (c : Cells) (g l : List ℤ) (k : ℕ) (r : ℤ) → l ≡ changed op c g k → r ≡ op (get_or l (at_of c k) (pos 0)) (value_of c k)
    → set l (at_of c k) r ≡ changed op c g (k + 1)
unfolding changed
changed_next op c g l k r e h =
    ap (set l (at_of c k)) h
    ∙ ap (λ (m : List ℤ). set m (at_of c k) (op (get_or m (at_of c k) (pos 0)) (value_of c k))) e
    ∙ ap (changed op c g) (sym (add-one k))

-- the four, one after the other
pub four_times : (op : List ℤ → ℕ → ℤ → List ℤ) (c : Cells) (g g₀ g₁ g₂ g₃ : List ℤ)
    → SFits w32 (value_of c 0) → SFits w32 (value_of c 1) → SFits w32 (value_of c 2) → SFits w32 (value_of c 3)
    → g₀ ≡ op g (at_of c 0) (to_z w32 (of_z w32 (value_of c 0)))
    → g₁ ≡ op g₀ (at_of c 1) (to_z w32 (of_z w32 (value_of c 1)))
    → g₂ ≡ op g₁ (at_of c 2) (to_z w32 (of_z w32 (value_of c 2)))
    → g₃ ≡ op g₂ (at_of c 3) (to_z w32 (of_z w32 (value_of c 3)))
    → g₃ ≡ op (op (op (op g (at_of c 0) (value_of c 0)) (at_of c 1) (value_of c 1)) (at_of c 2) (value_of c 2)) (at_of c 3) (value_of c 3)
four_times op c g g₀ g₁ g₂ g₃ f₀ f₁ f₂ f₃ e₀ e₁ e₂ e₃ =
    let h₀ = e₀ ∙ ap (op g (at_of c 0)) (back w32 f₀) in
    let h₁ = e₁ ∙ (λ i. op (h₀ i) (at_of c 1) (back w32 f₁ i)) in
    let h₂ = e₂ ∙ (λ i. op (h₁ i) (at_of c 2) (back w32 f₂ i)) in
    e₃ ∙ (λ i. op (h₂ i) (at_of c 3) (back w32 f₃ i))
