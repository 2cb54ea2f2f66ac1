-- Steps of a count of blocks, as code takes them.
use Rattle.std.specs.Prelude.{◌≡◌, ℕ, ◌+◌, ◌<◌, ◌≤◌, List, ℤ}
use Rattle.std.proofs.Common.{sym, ap, ◌∙◌, arith, w32, to_z, of_z}
use Rattle.arith.specs.Signed.{read}
use Rattle.maps.specs.declared.map.SceneLimits.{SceneLimits}
use Rattle.maps.specs.declared.class.Counts.{Counts}
use Rattle.maps.specs.Map.{score_at}
use Rattle.maps.proofs.Laws.Map.{score_at_fits}
use Rattle.maps.specs.Class.{tally, weight_of, tallied, counts_by}
use Rattle.maps.specs.Class.Laws.{AtMost, weight_most, most_more, tallies_most, counts_none, counts_next, counts_more}

-- counts of zeros are those of no block
pub none_counted : (l : SceneLimits) (score : ℕ → ℤ) {c : Counts} → (c.counted ≡ 0) × ((c.scene ≡ 0) × ((c.m2 ≡ 0) × (c.m1 ≡ 0))) → c ≡ counts_by l score 0
none_counted l score h = (λ i. tally (h.0 i) (h.1.0 i) (h.1.1.0 i) (h.1.1.1 i)) ∙ sym (counts_none l score)

-- what a block adds, where its score was answered by a call
pub weighed : (l : SceneLimits) (set averages : List ℕ) (i : ℕ) {score : ℤ} {w : Counts} → score ≡ score_at set averages i
    → w ≡ weight_of l (to_z w32 (of_z w32 score)) → w ≡ weight_of l (score_at set averages i)
weighed l set averages i e q = q ∙ ap (weight_of l) (read w32 e (score_at_fits set averages i))

module _ (l : SceneLimits) (score : ℕ → ℤ) (i : ℕ) {c w : Counts} (e : c ≡ counts_by l score i) (q : w ≡ weight_of l (score i)) where
  -- the counts so far and a block's are few enough to be added
  pub few_more : i < 1048576 → AtMost 1048576 c × AtMost 1048576 w
  few_more h = (rw e (most_more (tallies_most l score i) (omega arith)), rw q (most_more (weight_most l (score i)) (omega arith)))

  -- added, they are the counts of one block more
  pub one_more : {n : Counts} → n ≡ tallied c w → n ≡ counts_by l score (i + 1)
  one_more g = g ∙ (λ j. tallied (e j) (q j)) ∙ sym (counts_next l score i)

module _ (l : SceneLimits) (score : ℕ → ℤ) (m n : ℕ) {c w : Counts} (e : c ≡ counts_by l score m) (q : w ≡ counts_by l (λ (j : ℕ). score (m + j)) n) where
  -- the counts so far and a chunk's are few enough to be added
  pub few_chunk : m + n ≤ 1048576 → AtMost 1048576 c × AtMost 1048576 w
  few_chunk h = (rw e (most_more (tallies_most l score m) (omega arith)), rw q (most_more (tallies_most l (λ (j : ℕ). score (m + j)) n) (omega arith)))

  -- added, they are the counts of a chunk more
  pub chunk_more : {r : Counts} → r ≡ tallied c w → r ≡ counts_by l score (m + n)
  chunk_more g = g ∙ (λ j. tallied (e j) (q j)) ∙ sym (counts_more l score m n)
