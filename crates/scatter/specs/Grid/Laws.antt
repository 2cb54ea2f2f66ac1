-- Laws of the coverage grid, by which other crates know it: its cells, what it depends on, the sum of its cells, the grid after a
-- patch, and the scatter from zero, a block at a time.
use Rattle.std.specs.Prelude.{◌≡◌, refl, ◌≢◌, List, [], ◌∷◌, ◌++◌, ℕ, zero, suc, ◌+◌, ◌*◌, ◌%◌, ◌≤◌, ◌<◌, ℤ, pos, ◌+ℤ◌, ◌-ℤ◌, length, get_or, take}
use Rattle.std.proofs.Common.{sym, ap, ◌∙◌, subst, not-suc-le-zero, mul_comm, arith}
use Rattle.std.proofs.Math.Decide.{ℕ_discrete}
use Rattle.std.proofs.Math.IntN.{+ℤ_idl, +ℤ_idr, +ℤ_assoc, +ℤ-neg_ℤ_cancel}
use Rattle.arith.specs.Integers.{up, eq_z, sum_z, dif_z}
use Rattle.arith.specs.Splice.{over}
use Rattle.arith.specs.Splice.Laws.{over_over}
use Rattle.arith.specs.Tabulate.{tab}
use Rattle.arith.specs.Tabulate.Laws.{length_tab, get_d_tab, tab_same, tab_is, tab_suc, tab_zero}
use Rattle.arith.specs.Wrap.{M, res, wrap32}
use Rattle.arith.specs.Wrap.Laws.{wrap_zero, wrap_of_res, res_sum, res_wrap}
use Rattle.record.specs.declared.shape.FieldShape.{FieldShape}
use Rattle.record.specs.declared.entry.BlockVector.{BlockVector}
use Rattle.record.specs.Entries.{entry_at, with_entry, Holds}
use Rattle.record.specs.Entries.Laws.{entry_written, entry_kept}
use Rattle.record.specs.Entries.Again.{entry_front}
use Rattle.record.specs.Shape.{blocks_of, area_of, set_size, grid_size}
use Rattle.record.specs.Shape.Laws.{Accepted}
use Rattle.scatter.specs.declared.geometry.Cells.{Cells}
use Rattle.scatter.specs.Cells.{cells_of, cells_at, at_of, value_of, Within, whole_of}
use Rattle.scatter.specs.Cells.Laws.{at_within, at_whole}
use Rattle.scatter.specs.Added.{added, removed, added_run, patched}
use Rattle.scatter.specs.Added.Laws.{length_patched, length_removed, length_run, hit_same, hit_other, added_at, removed_at, run_at, run_over, patched_over}
use Rattle.scatter.specs.Grid.{hit, gives, total, cell_of, grid_of, zeros, sum_of}

-- ---- its cells

pub length_grid : (s : FieldShape) (T : ℤ) (set : List ℕ) → length (grid_of s T set) ≡ grid_size s
unfolding grid_of
length_grid s T set = length_tab (cell_of s T set) (grid_size s)

pub grid_at : (s : FieldShape) (T : ℤ) (set : List ℕ) (k : ℕ) → k < grid_size s → get_or (grid_of s T set) k (pos 0) ≡ cell_of s T set k
unfolding grid_of
grid_at s T set k h = get_d_tab (cell_of s T set) (grid_size s) k (pos 0) h

-- a list of the grid's length with its cells is the grid
grid_is : (s : FieldShape) (T : ℤ) (set : List ℕ) (g : List ℤ) → length g ≡ grid_size s
    → ((k : ℕ) → k < grid_size s → get_or g k (pos 0) ≡ cell_of s T set k) → g ≡ grid_of s T set
unfolding grid_of
grid_is s T set g e h = tab_is (pos 0) g (cell_of s T set) (grid_size s) e h

-- ---- sums over blocks

total_none : (f : ℕ → Cells) (i k : ℕ) → total f i 0 k ≡ pos 0
unfolding total
total_none f i k = refl

total_next : (f : ℕ → Cells) (i n k : ℕ) → total f i (suc n) k ≡ total f i n k +ℤ gives (f (i + n)) k
unfolding total
total_next f i n k = refl

pub total_same : (f g : ℕ → Cells) (i n k : ℕ) → ((j : ℕ) → j < n → f (i + j) ≡ g (i + j)) → total f i n k ≡ total g i n k
unfolding total
total_same f g i zero k h = refl
total_same f g i (suc n) k h = λ j. total_same f g i n k (λ m l. h m (omega arith)) j +ℤ gives (h n (omega arith) j) k

total_change : (f g : ℕ → Cells) (n b k : ℕ) → b < n → ((i : ℕ) → i < n → i ≢ b → g i ≡ f i)
    → total g 0 n k ≡ total f 0 n k -ℤ gives (f b) k +ℤ gives (g b) k
unfolding total
total_change f g zero b k l h = absurd (not-suc-le-zero l)
total_change f g (suc n) b k l h = go (λ m. total_change f g n b k m (λ i p. h i (omega arith))) (ℕ_discrete b n)
  where
    last : (t x y : ℤ) → t +ℤ y ≡ t +ℤ x -ℤ x +ℤ y
    last t x y = ap (λ (z : ℤ). z +ℤ y) (sym (+ℤ-neg_ℤ_cancel t x))

    past : (t x y c : ℤ) → t -ℤ x +ℤ y +ℤ c ≡ t +ℤ c -ℤ x +ℤ y
    past t x y c = eq_z (omega (arith, sum_z (t -ℤ x +ℤ y) c, sum_z (t -ℤ x) y, dif_z t x, sum_z (t +ℤ c -ℤ x) y, dif_z (t +ℤ c) x, sum_z t c))

    z : 0 + n ≡ n
    z = omega arith

    go : ((b < n) → total g 0 n k ≡ total f 0 n k -ℤ gives (f b) k +ℤ gives (g b) k) → Dec (b ≡ n)
        → total g 0 n k +ℤ gives (g (0 + n)) k ≡ total f 0 n k +ℤ gives (f (0 + n)) k -ℤ gives (f b) k +ℤ gives (g b) k
    go ih (yes e) =
        let q : b ≡ 0 + n = omega arith in
        (λ j.
        total_same g f 0 n k (λ i m. let w : 0 + i ≡ i = omega arith in ap g w ∙ h i (omega arith) (λ p. let y : ⊥ = omega arith in y) ∙ ap f (sym w)) j
        +ℤ gives (g (0 + n)) k)
        ∙ last (total f 0 n k) (gives (f (0 + n)) k) (gives (g (0 + n)) k)
        ∙ ap (λ (i : ℕ). total f 0 n k +ℤ gives (f (0 + n)) k -ℤ gives (f i) k +ℤ gives (g i) k) (sym q)
    go ih (no m) =
        (λ j. ih (omega arith) j +ℤ gives ((ap g z ∙ h n (omega arith) (λ q. m (sym q)) ∙ ap f (sym z)) j) k)
        ∙ past (total f 0 n k) (gives (f b) k) (gives (g b) k) (gives (f (0 + n)) k)

-- ---- what it depends on

at_same : (s : FieldShape) (T : ℤ) (a b : List ℕ) (i : ℕ) → (entry_at a i).x ≡ (entry_at b i).x → (entry_at a i).y ≡ (entry_at b i).y
    → cells_at s T a i ≡ cells_at s T b i
unfolding cells_at
at_same s T a b i e f = λ j. cells_of s T i (e j) (f j)

-- only on x and y of each entry
grid_of_vectors : (s : FieldShape) (T : ℤ) (a b : List ℕ) → ((i : ℕ) → i < blocks_of s → (entry_at a i).x ≡ (entry_at b i).x)
    → ((i : ℕ) → i < blocks_of s → (entry_at a i).y ≡ (entry_at b i).y) → grid_of s T a ≡ grid_of s T b
unfolding grid_of cell_of
grid_of_vectors s T a b e f =
    tab_same _ _ (grid_size s)
    (λ k h.
    ap wrap32
    (total_same (cells_at s T a) (cells_at s T b) 0 (blocks_of s) k
    (λ j l. at_same s T a b (0 + j) (e (0 + j) (omega arith)) (f (0 + j) (omega arith)))))

-- only on the first 8n bytes
pub grid_take : (s : FieldShape) (T : ℤ) (set : List ℕ) → grid_of s T (take (set_size s) set) ≡ grid_of s T set
grid_take s T set =
    grid_of_vectors s T (take (set_size s) set) set
    (λ i l. ap (λ (v : BlockVector). v.x) (entry_front s set i l))
    (λ i l. ap (λ (v : BlockVector). v.y) (entry_front s set i l))

pub grid_front : (s : FieldShape) (T : ℤ) (set : List ℕ) (g : List ℤ) → over (grid_of s T (take (set_size s) set)) g ≡ over (grid_of s T set) g
grid_front s T set g = ap (λ (l : List ℤ). over l g) (grid_take s T set)

-- filled afresh twice is filled afresh once
pub grid_again : (s : FieldShape) (T T' : ℤ) (X X' : List ℕ) (g : List ℤ) → over (grid_of s T X) (over (grid_of s T' X') g) ≡ over (grid_of s T X) g
grid_again s T T' X X' g = over_over _ _ g (length_grid s T X ∙ sym (length_grid s T' X'))

-- ---- the patch

-- one entry changes: the present one's products removed, the new one's added
grid_patched : (s : FieldShape) (T : ℤ) (a b : List ℕ) (i : ℕ) → i < blocks_of s
    → ((j : ℕ) → j < blocks_of s → j ≢ i → (entry_at b j).x ≡ (entry_at a j).x)
    → ((j : ℕ) → j < blocks_of s → j ≢ i → (entry_at b j).y ≡ (entry_at a j).y)
    → patched s T i (entry_at a i) (entry_at b i) (grid_of s T a) ≡ grid_of s T b
unfolding patched cell_of cells_at
grid_patched s T a b i l e f =
    let u : Cells = cells_at s T a i in
    let v : Cells = cells_at s T b i in
    let g : List ℤ = removed (grid_of s T a) u in
    let n : length g ≡ grid_size s = length_removed (grid_of s T a) u ∙ length_grid s T a in
    grid_is s T b (added g v)
    (length_patched s T i (entry_at a i) (entry_at b i) (grid_of s T a) ∙ length_grid s T a)
    (λ k h.
    added_at g v k (total (cells_at s T a) 0 (blocks_of s) k -ℤ gives u k) (subst (Within v) (sym n) (at_within s T b i))
    (removed_at (grid_of s T a) u k (total (cells_at s T a) 0 (blocks_of s) k) (subst (Within u) (sym (length_grid s T a)) (at_within s T a i))
    (grid_at s T a k h))
    ∙ ap wrap32 (sym (total_change (cells_at s T a) (cells_at s T b) (blocks_of s) i k l (λ j p q. at_same s T b a j (e j p q) (f j p q)))))

-- the grid after a patch at one block is the grid of the changed set
pub grid_edited : (s : FieldShape) (T : ℤ) (set : List ℕ) (i : ℕ) (v : BlockVector) → i < blocks_of s → set_size s ≤ length set → Holds v
    → patched s T i (entry_at set i) v (grid_of s T set) ≡ grid_of s T (with_entry set i v)
unfolding set_size
grid_edited s T set i v l h y =
    let room : 8 * i + 8 ≤ length set = omega arith in
    subst (λ (w : BlockVector). patched s T i (entry_at set i) w (grid_of s T set) ≡ grid_of s T (with_entry set i v)) (entry_written set i v room y)
    (grid_patched s T set (with_entry set i v) i l
    (λ j p q. ap (λ (w : BlockVector). w.x) (entry_kept set i v room j q))
    (λ j p q. ap (λ (w : BlockVector). w.y) (entry_kept set i v room j q)))

-- the same with surplus past the grid
pub grid_edited_over : (s : FieldShape) (T : ℤ) (set : List ℕ) (i : ℕ) (v : BlockVector) (rest : List ℤ) → i < blocks_of s → set_size s ≤ length set
    → Holds v → patched s T i (entry_at set i) v (over (grid_of s T set) rest) ≡ over (grid_of s T (with_entry set i v)) rest
grid_edited_over s T set i v rest l h y =
    patched_over s T i (entry_at set i) v (grid_of s T set) rest (length_grid s T set)
    ∙ ap (λ (g : List ℤ). over g rest) (grid_edited s T set i v l h y)

-- ---- the sum of its cells

sum_append : (a b : List ℤ) → sum_of (a ++ b) ≡ sum_of a +ℤ sum_of b
unfolding sum_of
sum_append [] b = sym (+ℤ_idl (sum_of b))
sum_append (z ∷ a) b = ap (λ (y : ℤ). z +ℤ y) (sum_append a b) ∙ sym (+ℤ_assoc z (sum_of a) (sum_of b))

sum_none : (f : ℕ → ℤ) → sum_of (tab f 0) ≡ pos 0
unfolding sum_of
sum_none f = ap sum_of (tab_zero f)

sum_next : (f : ℕ → ℤ) (n : ℕ) → sum_of (tab f (suc n)) ≡ sum_of (tab f n) +ℤ f n
unfolding sum_of
sum_next f n = ap sum_of (tab_suc f n) ∙ sum_append (tab f n) (f n ∷ []) ∙ ap (λ (y : ℤ). sum_of (tab f n) +ℤ y) (+ℤ_idr (f n))

sum_zero : (f : ℕ → ℤ) (n : ℕ) → ((k : ℕ) → k < n → f k ≡ pos 0) → sum_of (tab f n) ≡ pos 0
sum_zero f zero h = sum_none f
sum_zero f (suc n) h = sum_next f n ∙ (λ i. sum_zero f n (λ k l. h k (omega arith)) i +ℤ h n (omega arith) i)

sum_add : (f g : ℕ → ℤ) (n : ℕ) → sum_of (tab (λ k. f k +ℤ g k) n) ≡ sum_of (tab f n) +ℤ sum_of (tab g n)
sum_add f g zero = sum_none (λ k. f k +ℤ g k) ∙ sym (λ i. sum_none f i +ℤ sum_none g i)
sum_add f g (suc n) =
    sum_next (λ k. f k +ℤ g k) n
    ∙ ap (λ (z : ℤ). z +ℤ (f n +ℤ g n)) (sum_add f g n)
    ∙ four (sum_of (tab f n)) (sum_of (tab g n)) (f n) (g n)
    ∙ sym (λ i. sum_next f n i +ℤ sum_next g n i)
  where
    four : (a b c d : ℤ) → a +ℤ b +ℤ (c +ℤ d) ≡ a +ℤ c +ℤ (b +ℤ d)
    four a b c d = eq_z (omega (arith, sum_z (a +ℤ b) (c +ℤ d), sum_z a b, sum_z c d, sum_z (a +ℤ c) (b +ℤ d), sum_z a c, sum_z b d))

-- what one index holds is counted once
sum_hit : (a : ℕ) (v : ℤ) (n : ℕ) → a < n → sum_of (tab (λ k. hit a k v) n) ≡ v
sum_hit a v zero h = absurd (not-suc-le-zero h)
sum_hit a v (suc n) h = sum_next (λ k. hit a k v) n ∙ go (λ l. sum_hit a v n l) (ℕ_discrete a n)
  where
    go : ((a < n) → sum_of (tab (λ k. hit a k v) n) ≡ v) → Dec (a ≡ n) → sum_of (tab (λ k. hit a k v) n) +ℤ hit a n v ≡ v
    go ih (yes e) =
        (λ i.
        sum_zero (λ k. hit a k v) n (λ k l. hit_other a k v (λ q. let z : ⊥ = omega arith in z)) i
        +ℤ (ap (λ (j : ℕ). hit a j v) (sym e) ∙ hit_same a v) i)
        ∙ +ℤ_idl v
    go ih (no m) = (λ i. ih (omega arith) i +ℤ hit_other a n v (λ q. m (sym q)) i) ∙ +ℤ_idr v

sum_gives : (c : Cells) (n : ℕ) → Within c n → sum_of (tab (gives c) n) ≡ whole_of c
unfolding gives whole_of
sum_gives c n w =
    let h : ℕ → ℕ → ℤ = λ j k. hit (at_of c j) k (value_of c j) in
    sum_add (λ k. h 0 k +ℤ h 1 k +ℤ h 2 k) (h 3) n
    ∙ (λ i. sum_add (λ k. h 0 k +ℤ h 1 k) (h 2) n i +ℤ sum_of (tab (h 3) n))
    ∙ (λ i. sum_add (h 0) (h 1) n i +ℤ sum_of (tab (h 2) n) +ℤ sum_of (tab (h 3) n))
    ∙ (λ i.
    sum_hit (at_of c 0) (value_of c 0) n w.at0 i
    +ℤ sum_hit (at_of c 1) (value_of c 1) n w.at1 i
    +ℤ sum_hit (at_of c 2) (value_of c 2) n w.at2 i
    +ℤ sum_hit (at_of c 3) (value_of c 3) n w.at3 i)

sum_total : (f : ℕ → Cells) (n K A : ℕ) → ((i : ℕ) → Within (f i) K) → ((i : ℕ) → whole_of (f i) ≡ pos A)
    → sum_of (tab (total f 0 n) K) ≡ pos (A * n)
sum_total f zero K A w h = sum_zero (total f 0 0) K (λ k l. total_none f 0 k) ∙ ap pos (omega arith)
sum_total f (suc n) K A w h =
    ap sum_of (tab_same (total f 0 (suc n)) (λ k. total f 0 n k +ℤ gives (f (0 + n)) k) K (λ k l. total_next f 0 n k))
    ∙ sum_add (total f 0 n) (gives (f (0 + n))) K
    ∙ (λ i. sum_total f n K A w h i +ℤ (sum_gives (f (0 + n)) K (w (0 + n)) ∙ h (0 + n)) i)
    ∙ ap pos (omega arith)

sum_res : (f : ℕ → ℤ) (n : ℕ) → res (sum_of (tab (λ k. wrap32 (f k)) n)) ≡ res (sum_of (tab f n))
sum_res f zero = ap res (sum_none (λ k. wrap32 (f k)) ∙ sym (sum_none f))
sum_res f (suc n) =
    ap res (sum_next (λ k. wrap32 (f k)) n)
    ∙ res_sum (sum_of (tab (λ k. wrap32 (f k)) n)) (wrap32 (f n))
    ∙ (λ i. (sum_res f n i + res_wrap (f n) i) % M)
    ∙ sym (res_sum (sum_of (tab f n)) (f n))
    ∙ ap res (sym (sum_next f n))

-- all cells, trash with them, sum to area × n modulo 2^32
pub grid_sum : (s : FieldShape) (T : ℤ) (set : List ℕ) → Accepted s → wrap32 (sum_of (grid_of s T set)) ≡ wrap32 (pos (area_of s * blocks_of s))
unfolding grid_of cell_of
grid_sum s T set a =
    let f : ℕ → Cells = cells_at s T set in
    wrap_of_res (sum_of (grid_of s T set)) (pos (area_of s * blocks_of s))
    (sum_res (total f 0 (blocks_of s)) (grid_size s)
    ∙ ap res (sum_total f (blocks_of s) (grid_size s) (area_of s) (at_within s T set) (λ i. at_whole s T set i a)))

-- ---- from zero, a block at a time

-- the blocks of a set, in a grid that starts at zero
zeros_within : (s : FieldShape) (T : ℤ) (set : List ℕ) (i : ℕ) → Within (cells_at s T set i) (length (zeros (grid_size s)))
zeros_within s T set i = subst (Within (cells_at s T set i)) (sym (length_tab (λ _. pos 0) (grid_size s))) (at_within s T set i)

grid_run : (s : FieldShape) (T : ℤ) (set : List ℕ) → added_run (cells_at s T set) 0 (blocks_of s) (zeros (grid_size s)) ≡ grid_of s T set
unfolding cell_of
grid_run s T set =
    let z : List ℤ = zeros (grid_size s) in
    grid_is s T set (added_run (cells_at s T set) 0 (blocks_of s) z) (length_run (cells_at s T set) 0 (blocks_of s) z ∙ length_tab (λ _. pos 0) (grid_size s))
    (λ k h.
    run_at (cells_at s T set) 0 (blocks_of s) z k (pos 0) (λ j l. zeros_within s T set (0 + j))
    (get_d_tab (λ _. pos 0) (grid_size s) k (pos 0) h ∙ sym wrap_zero)
    ∙ ap wrap32 (+ℤ_idl (total (cells_at s T set) 0 (blocks_of s) k)))

-- the same over the front of a longer buffer
grid_run_over : (s : FieldShape) (T : ℤ) (set : List ℕ) (l : List ℤ)
    → added_run (cells_at s T set) 0 (blocks_of s) (over (zeros (grid_size s)) l) ≡ over (grid_of s T set) l
grid_run_over s T set l =
    run_over (cells_at s T set) 0 (blocks_of s) (zeros (grid_size s)) l (λ j h. zeros_within s T set (0 + j))
    ∙ ap (λ (g : List ℤ). over g l) (grid_run s T set)

-- the same a row at a time, once the last row is in
pub rows_all : (s : FieldShape) (T : ℤ) (set : List ℕ) (row : ℕ) (l : List ℤ) → row ≡ up s.grid_h
    → added_run (cells_at s T set) 0 (row * up s.grid_w) (over (zeros (grid_size s)) l) ≡ over (grid_of s T set) l
unfolding blocks_of
rows_all s T set row l e =
    let n : row * up s.grid_w ≡ blocks_of s = ap (λ (k : ℕ). k * up s.grid_w) e ∙ mul_comm _ _ in
    ap (λ (k : ℕ). added_run (cells_at s T set) 0 k (over (zeros (grid_size s)) l)) n ∙ grid_run_over s T set l
