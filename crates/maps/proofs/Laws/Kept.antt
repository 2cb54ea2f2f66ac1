-- Laws of the kept counts: by scores, of the front of both sets, and after an edit, where adjusted and made afresh are one.
use Rattle.std.specs.Prelude.{◌≡◌, ℕ, zero, suc, ◌+◌, ◌-◌, ◌%◌, ◌<◌, ◌≤◌, Bool, true, false, cond, ◌≢◌, List, length, take, ℤ, FitsSigned, ◌==◌, slice_index}
use Rattle.std.proofs.Math.Path.{refl, sym, ap}
use Rattle.std.proofs.Common.{◌∙◌, mod-eq_of_lt, not-suc-le-zero, get_or-set_same}
use Rattle.std.proofs.Math.Decide.{ℕ_discrete, dec_lt}
use Rattle.std.proofs.Math.Nat.{add-mod_right, mod_self}
use native.Mathlib.Omega.{arith}
use Rattle.std.specs.Int.{w32}
use Rattle.arith.specs.Filling.{filled_at}
use Rattle.arith.specs.Tabulate.Laws.{get_d_tab}
use Rattle.arith.specs.Wrap.{M}
use Rattle.record.specs.declared.shape.FieldShape.{FieldShape}
use Rattle.record.specs.Entries.{entry_at, set_of}
use Rattle.record.specs.Entries.Again.{entry_front}
use Rattle.record.specs.Shape.{blocks_of, set_size}
use Rattle.record.specs.Shape.Laws.{Accepted, shape_bounds}
use Rattle.maps.specs.declared.map.SceneLimits.{SceneLimits}
use Rattle.maps.specs.declared.class.Counts.{Counts}
use Rattle.maps.specs.Luma.{average_at, averages_of, averages_made, average_patched}
use Rattle.maps.specs.Map.{score_of, score_at}
use Rattle.maps.proofs.Laws.Map.{score_fits}
use Rattle.maps.specs.Class.{tally, tallied, weight_of, counts_by, counts_of}
use Rattle.maps.specs.Class.Laws.{AtMost, weight_most, tallies_most, counts_same}
use Rattle.maps.specs.Change.{Agree}
use Rattle.maps.specs.Kept.{counts_from, score_from, moved_count, adjusted}

-- ---- by scores

-- a block's score is a function of its two entries alone
pub score_same : (table : List ℕ) (side : ℕ) (b b' f f' : List ℕ) (i : ℕ) → entry_at b i ≡ entry_at b' i → entry_at f i ≡ entry_at f' i
    → score_from table side b f i ≡ score_from table side b' f' i
unfolding score_from set_of average_at
score_same table side b b' f f' i p q = go (side == 1)
  where
    go : (t : Bool) → score_of (entry_at (cond t b f) i).sad (slice_index table ((entry_at b i).luma + (entry_at f i).luma))
        ≡ score_of (entry_at (cond t b' f') i).sad (slice_index table ((entry_at b' i).luma + (entry_at f' i).luma))
    go true = λ j. score_of (p j).sad (slice_index table ((p j).luma + (q j).luma))
    go false = λ j. score_of (q j).sad (slice_index table ((p j).luma + (q j).luma))

pub score_from_fits : (table : List ℕ) (side : ℕ) (b f : List ℕ) (i : ℕ) → FitsSigned w32 (score_from table side b f i)
unfolding score_from
score_from_fits table side b f i = score_fits _ _

-- the counts by these scores, where what is lent as averages are those of both sets
module _ (s : FieldShape) (l : SceneLimits) (table : List ℕ) (side : ℕ) (b f : List ℕ) where
  scored : (averages : List ℕ) → ((i : ℕ) → i < blocks_of s → slice_index averages i ≡ average_at table b f i)
      → counts_of s l (set_of side b f) averages ≡ counts_by l (score_from table side b f) (blocks_of s)
  unfolding counts_of score_at score_from
  scored averages e = counts_same l _ (score_from table side b f) (blocks_of s) (λ i h. ap (score_of (entry_at (set_of side b f) i).sad) (e i h))

  by_scores : counts_from s l table side b f ≡ counts_by l (score_from table side b f) (blocks_of s)
  unfolding counts_from averages_of
  by_scores = scored _ (λ i h. get_d_tab (average_at table b f) (blocks_of s) i 0 h)

module _ (s : FieldShape) (l : SceneLimits) (table : List ℕ) (side : ℕ) (b f : List ℕ) where
  -- the counts of quality, of these averages in front of any surplus
  pub counts_from_made : (a : List ℕ) → counts_of s l (set_of side b f) (averages_made s table b f a) ≡ counts_from s l table side b f
  unfolding averages_made averages_of
  counts_from_made a = scored s l table side b f _ (λ i h. filled_at (average_at table b f) _ a (blocks_of s) i 0 refl h) ∙ sym (by_scores s l table side b f)

  -- they depend on the first 8n bytes of each set
  pub counts_from_front : counts_from s l table side (take (set_size s) b) (take (set_size s) f) ≡ counts_from s l table side b f
  counts_from_front =
      by_scores s l table side (take (set_size s) b) (take (set_size s) f)
      ∙ counts_same l _ (score_from table side b f) (blocks_of s)
      (λ i h. score_same table side (take (set_size s) b) b (take (set_size s) f) f i (entry_front s b i h) (entry_front s f i h))
      ∙ sym (by_scores s l table side b f)

  -- no count is more than n
  pub counts_from_most : AtMost (blocks_of s) (counts_from s l table side b f)
  counts_from_most = rw (by_scores s l table side b f) (tallies_most l (score_from table side b f) (blocks_of s))

-- the average that was just worked out anew gives the same score
pub score_patched : (table : List ℕ) (side : ℕ) (b f a : List ℕ) (i : ℕ) → i < length a
    → score_at (set_of side b f) (average_patched table b f i a) i ≡ score_from table side b f i
unfolding score_at score_from average_patched
score_patched table side b f a i h = ap (score_of (entry_at (set_of side b f) i).sad) (get_or-set_same a i (average_at table b f i) 0 h)

-- ---- after an edit

-- a count that comes to r without passing an end
moved_is : (count before after r : ℕ) → r < M → before ≤ 1 → r + before ≡ count + after → moved_count count before after ≡ r
unfolding moved_count
moved_is count before after r h b e =
    let m : count + (M - before) + after ≡ r + M = omega arith in
    ap (λ (n : ℕ). n % M) m ∙ add-mod_right r M ∙ mod-eq_of_lt h

-- a difference and then a sum, each modulo 2^32
pub moved_by : (count before after r : ℕ) → r < M → before ≤ 1 → (r + before) % M ≡ count → (r + after) % M ≡ moved_count count before after
unfolding moved_count
moved_by count before after r h b e = go (dec_lt (r + before) M)
  where
    go : Dec (r + before < M) → (r + after) % M ≡ (count + (M - before) + after) % M
    go (yes i) =
        let c : r + before ≡ count = sym (mod-eq_of_lt i) ∙ e in
        let m : r + after + M ≡ count + (M - before) + after = omega arith in
        sym (add-mod_right (r + after) M) ∙ ap (λ (n : ℕ). n % M) m
    go (no i) =
        let c : r + before ≡ M = omega arith in
        let z : 0 ≡ count = sym (ap (λ (n : ℕ). n % M) c ∙ mod_self M) ∙ e in
        let m : r + after ≡ count + (M - before) + after = omega arith in
        ap (λ (n : ℕ). n % M) m

-- scores that differ at one block: what the counts gain there they lose there
module _ (l : SceneLimits) (f g : ℕ → ℤ) (b : ℕ) (same : (k : ℕ) → k ≢ b → g k ≡ f k) where
  -- of one of the four counts
  module _ (part : Counts → ℕ) (sum : (u v : Counts) → part (tallied u v) ≡ part u + part v) where
    balanced : (n : ℕ) → b < n → part (counts_by l g n) + part (weight_of l (f b)) ≡ part (counts_by l f n) + part (weight_of l (g b))
    unfolding counts_by
    balanced zero h = absurd (not-suc-le-zero h)
    balanced (suc n) h = go (ℕ_discrete n b) (balanced n)
      where
        go : Dec (n ≡ b) → (b < n → part (counts_by l g n) + part (weight_of l (f b)) ≡ part (counts_by l f n) + part (weight_of l (g b)))
            → part (counts_by l g (suc n)) + part (weight_of l (f b)) ≡ part (counts_by l f (suc n)) + part (weight_of l (g b))
        go (yes e) again =
            let c : part (counts_by l g n) ≡ part (counts_by l f n) = ap part (counts_same l g f n (λ k m. same k (λ q. omega arith))) in
            let x : part (weight_of l (g n)) ≡ part (weight_of l (g b)) = ap (λ (k : ℕ). part (weight_of l (g k))) e in
            let y : part (weight_of l (f n)) ≡ part (weight_of l (f b)) = ap (λ (k : ℕ). part (weight_of l (f k))) e in
            omega (arith, sum (counts_by l g n) (weight_of l (g n)), sum (counts_by l f n) (weight_of l (f n)))
        go (no e) again =
            let below : b < n = omega arith in
            let c = again below in
            let x : part (weight_of l (g n)) ≡ part (weight_of l (f n)) = ap (λ (z : ℤ). part (weight_of l z)) (same n e) in
            omega (arith, sum (counts_by l g n) (weight_of l (g n)), sum (counts_by l f n) (weight_of l (f n)))

  counts_changed : (n : ℕ) → n ≤ 1048576 → b < n → adjusted l (f b) (g b) (counts_by l f n) ≡ counts_by l g n
  unfolding adjusted tallied
  counts_changed n few h =
      let most = tallies_most l g n in
      let one = weight_most l (f b) in
      λ i.
      tally
      (moved_is _ _ _ (counts_by l g n).counted (omega (arith, most.counted)) one.counted (balanced (λ c. c.counted) (λ u v. refl) n h) i)
      (moved_is _ _ _ (counts_by l g n).scene (omega (arith, most.scene)) one.scene (balanced (λ c. c.scene) (λ u v. refl) n h) i)
      (moved_is _ _ _ (counts_by l g n).m2 (omega (arith, most.m2)) one.m2 (balanced (λ c. c.m2) (λ u v. refl) n h) i)
      (moved_is _ _ _ (counts_by l g n).m1 (omega (arith, most.m1)) one.m1 (balanced (λ c. c.m1) (λ u v. refl) n h) i)

-- sets that differ at one block: the counts of the one, adjusted, are the counts of the other
pub counts_from_edited : (s : FieldShape) (l : SceneLimits) (table : List ℕ) (side : ℕ) (b b' f f' : List ℕ) (block : ℕ) → Accepted s → block < blocks_of s
    → Agree block b b' → Agree block f f'
    → adjusted l (score_from table side b f block) (score_from table side b' f' block) (counts_from s l table side b f) ≡ counts_from s l table side b' f'
counts_from_edited s l table side b b' f f' block a h p q =
    ap (adjusted l (score_from table side b f block) (score_from table side b' f' block)) (by_scores s l table side b f)
    ∙ counts_changed l (score_from table side b f) (score_from table side b' f') block
    (λ k n. score_same table side b' b f' f k (p k n) (q k n)) (blocks_of s) (shape_bounds s a).blocks_most h
    ∙ sym (by_scores s l table side b' f')
