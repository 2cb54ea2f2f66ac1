-- What a change of one entry changes of averages, map and planes: one block's values, worked out anew; all else stays. The laws by which
-- 'patched' and 'made afresh' are one.
use Rattle.std.specs.Prelude.{◌≡◌, ℕ, ◌+◌, ◌<◌, ◌≢◌, List, set, slice_index, refl}
use Rattle.std.proofs.Common.{sym, ap, ◌∙◌, arith, get_or-set_other}
use Rattle.std.proofs.Math.Decide.{ℕ_discrete}
use Rattle.std.proofs.lemmas.List.{set_comm}
use Rattle.arith.specs.Filling.{filled_at, fill_again}
use Rattle.arith.specs.Splice.{over}
use Rattle.arith.specs.Splice.Laws.{set_over}
use Rattle.arith.specs.Tabulate.{tab}
use Rattle.arith.specs.Tabulate.Laws.{length_tab, tab_same, tab_set}
use Rattle.record.specs.declared.shape.FieldShape.{FieldShape}
use Rattle.record.specs.Shape.{blocks_of, plane_size}
use Rattle.record.specs.Entries.{entry_at}
use Rattle.maps.specs.declared.map.SceneLimits.{SceneLimits}
use Rattle.maps.specs.Luma.{average_at, averages_of, averages_made, average_patched}
use Rattle.maps.specs.Map.{score_of, score_at, map_byte, map_at, map_of, map_made, map_patched}
use Rattle.maps.specs.Planes.{Planes, planes, cell_block, x_at, y_at, x_plane, y_plane, planes_made, renewed_at, renewed_cells, planes_patched}
use Rattle.maps.specs.Planes.Laws.{x_same, y_same, renewed_hit, renewed_miss, renewed_at_lem}

-- two sets have the same entries but at block b
abbrev pub Agree : ℕ → List ℕ → List ℕ → Type 0
Agree b old new = (j : ℕ) → j ≢ b → entry_at new j ≡ entry_at old j

pub agree_same : (set : List ℕ) (b : ℕ) → Agree b set set
agree_same set b j n = refl

-- a front that is tabulated, with one value set
set_front : (f g : ℕ → ℕ) (n b : ℕ) (l : List ℕ) → b < n → ((k : ℕ) → k ≢ b → g k ≡ f k) → set (over (tab f n) l) b (g b) ≡ over (tab g n) l
set_front f g n b l h e =
    set_over (tab f n) l b (g b) (omega (arith, length_tab f n)) ∙ ap (λ (t : List ℕ). over t l) (sym (tab_set 0 f g n b e))

-- ---- averages

pub averages_patched : (s : FieldShape) (table backward backward' forward forward' l : List ℕ) (b : ℕ) → b < blocks_of s
    → Agree b backward backward' → Agree b forward forward'
    → average_patched table backward' forward' b (averages_made s table backward forward l) ≡ averages_made s table backward' forward' l
unfolding average_patched averages_made averages_of average_at
averages_patched s table backward backward' forward forward' l b h p q =
    set_front (average_at table backward forward) (average_at table backward' forward') (blocks_of s) b l h
    (λ k n i. slice_index table ((p k n i).luma + (q k n i).luma))

-- every other average stays
pub averages_kept : (s : FieldShape) (table backward backward' forward forward' l : List ℕ) (b : ℕ) → b < blocks_of s
    → Agree b backward backward' → Agree b forward forward'
    → (k : ℕ) → k ≢ b → slice_index (averages_made s table backward' forward' l) k ≡ slice_index (averages_made s table backward forward l) k
unfolding average_patched
averages_kept s table backward backward' forward forward' l b h p q k n =
    ap (λ (t : List ℕ). slice_index t k) (sym (averages_patched s table backward backward' forward forward' l b h p q))
    ∙ get_or-set_other (averages_made s table backward forward l) b k _ 0 n

-- ---- the map

pub map_patched_lem : (s : FieldShape) (l : SceneLimits) (sads sads' averages averages' m : List ℕ) (b : ℕ) → b < blocks_of s
    → Agree b sads sads' → ((k : ℕ) → k ≢ b → slice_index averages' k ≡ slice_index averages k)
    → map_patched l sads' averages' b (map_made s l sads averages m) ≡ map_made s l sads' averages' m
unfolding map_patched map_made map_of map_at score_at
map_patched_lem s l sads sads' averages averages' m b h p q =
    set_front (map_at l sads averages) (map_at l sads' averages') (blocks_of s) b m h
    (λ k n i. map_byte l (score_of (p k n i).sad (q k n i)))

-- ---- the planes

-- cells outside the block have one value in both sets
renewed_made : (s : FieldShape) (b : ℕ) (f g : ℕ → ℕ) (l : List ℕ) → ((k : ℕ) → cell_block s k ≢ b → g k ≡ f k)
    → renewed_cells s b g (over (tab f (plane_size s)) l) ≡ over (tab g (plane_size s)) l
unfolding renewed_cells
renewed_made s b f g l e =
    fill_again (renewed_at s b g (over (tab f (plane_size s)) l)) f (plane_size s) l
    ∙ ap (λ (t : List ℕ). over t l) (tab_same _ g (plane_size s) (λ k m. at k m (ℕ_discrete (cell_block s k) b)))
  where
    at : (k : ℕ) → k < plane_size s → Dec (cell_block s k ≡ b) → renewed_at s b g (over (tab f (plane_size s)) l) k ≡ g k
    at k m (yes i) = renewed_hit s b g _ k i
    at k m (no i) =
        renewed_miss s b g (over (tab f (plane_size s)) l) k i ∙ filled_at f (over (tab f (plane_size s)) l) l (plane_size s) k 0 refl m ∙ sym (e k i)

pub planes_patched_lem : (s : FieldShape) (set set' : List ℕ) (b : ℕ) (p : Planes) → Agree b set set'
    → planes_patched s set' b (planes_made s set p) ≡ planes_made s set' p
unfolding planes_patched planes_made x_plane y_plane
planes_patched_lem s set set' b p e =
    λ i.
    planes
    (renewed_made s b (x_at s set) (x_at s set') p.xs (λ k n. x_same s set' set k (e _ n)) i)
    (renewed_made s b (y_at s set) (y_at s set') p.ys (λ k n. y_same s set' set k (e _ n)) i)

-- ---- a block's values are a function of its entries alone

pub average_by_entry : (table backward backward' forward forward' : List ℕ) (b : ℕ) (l : List ℕ)
    → entry_at backward b ≡ entry_at backward' b → entry_at forward b ≡ entry_at forward' b
    → average_patched table backward forward b l ≡ average_patched table backward' forward' b l
unfolding average_patched average_at
average_by_entry table backward backward' forward forward' b l p q = λ i. set l b (slice_index table ((p i).luma + (q i).luma))

pub map_by_entry : (l : SceneLimits) (sads sads' averages averages' : List ℕ) (b : ℕ) (m : List ℕ)
    → entry_at sads b ≡ entry_at sads' b → slice_index averages b ≡ slice_index averages' b
    → map_patched l sads averages b m ≡ map_patched l sads' averages' b m
unfolding map_patched map_at score_at
map_by_entry l sads sads' averages averages' b m p q = λ i. set m b (map_byte l (score_of (p i).sad (q i)))

renewed_same : (s : FieldShape) (b : ℕ) (f g : ℕ → ℕ) (l : List ℕ) → ((k : ℕ) → cell_block s k ≡ b → f k ≡ g k)
    → renewed_cells s b f l ≡ renewed_cells s b g l
unfolding renewed_cells
renewed_same s b f g l e =
    ap (λ (t : List ℕ). over t l) (tab_same (renewed_at s b f l) (renewed_at s b g l) (plane_size s) (λ k m. at k (ℕ_discrete (cell_block s k) b)))
  where
    at : (k : ℕ) → Dec (cell_block s k ≡ b) → renewed_at s b f l k ≡ renewed_at s b g l k
    at k (yes i) = renewed_hit s b f l k i ∙ e k i ∙ sym (renewed_hit s b g l k i)
    at k (no i) = renewed_miss s b f l k i ∙ sym (renewed_miss s b g l k i)

pub planes_by_entry : (s : FieldShape) (set set' : List ℕ) (b : ℕ) (p : Planes) → entry_at set b ≡ entry_at set' b → planes_patched s set b p ≡ planes_patched s set' b p
unfolding planes_patched
planes_by_entry s set set' b p e =
    λ i.
    planes
    (renewed_same s b (x_at s set) (x_at s set') p.xs (λ k n. x_same s set set' k (there k n)) i)
    (renewed_same s b (y_at s set) (y_at s set') p.ys (λ k n. y_same s set set' k (there k n)) i)
  where
    there : (k : ℕ) → cell_block s k ≡ b → entry_at set (cell_block s k) ≡ entry_at set' (cell_block s k)
    there k n = ap (entry_at set) n ∙ e ∙ ap (entry_at set') (sym n)

-- ---- two edits of different blocks, in either order: no proof here needs these laws nor `average_by_entry`; paper 02's request 13 will

pub averages_commute : (table b₁ f₁ b₂ f₂ : List ℕ) (i j : ℕ) (l : List ℕ) → i ≢ j
    → average_patched table b₂ f₂ j (average_patched table b₁ f₁ i l) ≡ average_patched table b₁ f₁ i (average_patched table b₂ f₂ j l)
unfolding average_patched
averages_commute table b₁ f₁ b₂ f₂ i j l n = set_comm l i j _ _ n

pub map_commute : (l : SceneLimits) (s₁ a₁ s₂ a₂ : List ℕ) (i j : ℕ) (m : List ℕ) → i ≢ j
    → map_patched l s₂ a₂ j (map_patched l s₁ a₁ i m) ≡ map_patched l s₁ a₁ i (map_patched l s₂ a₂ j m)
unfolding map_patched
map_commute l s₁ a₁ s₂ a₂ i j m n = set_comm m i j _ _ n

renewed_commute : (s : FieldShape) (a b : ℕ) (f g : ℕ → ℕ) (l : List ℕ) → a ≢ b
    → renewed_cells s b g (renewed_cells s a f l) ≡ renewed_cells s a f (renewed_cells s b g l)
unfolding renewed_cells
renewed_commute s a b f g l n =
    fill_again (renewed_at s b g (renewed_cells s a f l)) (renewed_at s a f l) (plane_size s) l
    ∙ ap (λ (t : List ℕ). over t l)
    (tab_same (renewed_at s b g (renewed_cells s a f l)) (renewed_at s a f (renewed_cells s b g l)) (plane_size s)
    (λ k m. at k m (ℕ_discrete (cell_block s k) a) (ℕ_discrete (cell_block s k) b)))
    ∙ sym (fill_again (renewed_at s a f (renewed_cells s b g l)) (renewed_at s b g l) (plane_size s) l)
  where
    at : (k : ℕ) → k < plane_size s → Dec (cell_block s k ≡ a) → Dec (cell_block s k ≡ b)
        → renewed_at s b g (renewed_cells s a f l) k ≡ renewed_at s a f (renewed_cells s b g l) k
    at k m (yes i) (yes j) = absurd (n (sym i ∙ j))
    at k m (yes i) (no j) =
        renewed_miss s b g (renewed_cells s a f l) k j
        ∙ renewed_at_lem s a f l k m
        ∙ renewed_hit s a f l k i
        ∙ sym (renewed_hit s a f (renewed_cells s b g l) k i)
    at k m (no i) (yes j) =
        renewed_hit s b g (renewed_cells s a f l) k j
        ∙ sym (renewed_miss s a f (renewed_cells s b g l) k i ∙ renewed_at_lem s b g l k m ∙ renewed_hit s b g l k j)
    at k m (no i) (no j) =
        renewed_miss s b g (renewed_cells s a f l) k j
        ∙ renewed_at_lem s a f l k m
        ∙ renewed_miss s a f l k i
        ∙ sym (renewed_miss s a f (renewed_cells s b g l) k i ∙ renewed_at_lem s b g l k m ∙ renewed_miss s b g l k j)

pub planes_commute : (s : FieldShape) (set₁ set₂ : List ℕ) (a b : ℕ) (p : Planes) → a ≢ b
    → planes_patched s set₂ b (planes_patched s set₁ a p) ≡ planes_patched s set₁ a (planes_patched s set₂ b p)
unfolding planes_patched
planes_commute s set₁ set₂ a b p n =
    λ i. planes (renewed_commute s a b (x_at s set₁) (x_at s set₂) p.xs n i) (renewed_commute s a b (y_at s set₁) (y_at s set₂) p.ys n i)
