-- Laws of the counts and the class.
use Rattle.std.specs.Prelude.{◌≡◌, ℕ, zero, suc, ◌+◌, ◌<◌, ◌≤◌, true, Result, Ok, Err, IsErrAnd, List, length, take, ℤ, FitsSigned, ◌==◌, nat_le, refl}
use Rattle.std.proofs.Common.{sym, ap, ◌∙◌, eq-eqb, le-leb, add-zero, add-suc, add_assoc, add-one, arith}
use Rattle.std.specs.Int.Signed.{lt_z, le_z}
use Rattle.std.specs.Int.{w32}
use Rattle.arith.specs.Booleans.{cond_elim, cond_true}
use Rattle.arith.specs.Signed.{quot_fits}
use Rattle.arith.specs.Wrap.Laws.{wrap_fits}
use Rattle.record.specs.declared.shape.FieldShape.{FieldShape}
use Rattle.record.specs.Entries.{set_of, side_accepted}
use Rattle.record.specs.Shape.{blocks_of, set_size, shape_accepted}
use Rattle.record.specs.Shape.Laws.{Accepted, shape_bounds}
use Rattle.record.specs.Checks.{sets_number, side_number}
use Rattle.record.specs.Checks.Laws.{SetsReady, sets_ready, length_ready, sets_number_lem, side_number_lem}
use Rattle.record.specs.declared.refusal.Refusal.{Refusal}
use Rattle.record.specs.Refusals.{code}
use Rattle.record.specs.Numbers.Laws.{first_zero, passed, both_zero}
use Rattle.maps.specs.declared.map.SceneLimits.{SceneLimits}
use Rattle.maps.specs.declared.class.Counts.{Counts}
use Rattle.maps.specs.Map.{score_at}
use Rattle.maps.specs.Map.Laws.{score_front}
use Rattle.maps.specs.Class.{quality_number, tally, weight_of, tallied, counts_by, counts_of, required_of, class_of, refused, graded_of, Classed, quality_of}

-- what the counts require: an accepted shape, and buffers as long as it asks
pub record CountsReady (s : FieldShape) (set averages : ℕ) : Type 0 where
  pub accepted : Accepted s
  pub set_room : set_size s ≤ set
  pub averages_room : blocks_of s ≤ averages

-- ---- no count is more than k
pub record AtMost (k : ℕ) (c : Counts) : Type 0 where
  pub counted : c.counted ≤ k
  pub scene : c.scene ≤ k
  pub m2 : c.m2 ≤ k
  pub m1 : c.m1 ≤ k

-- a block adds at most 1 to each count
pub weight_most : (l : SceneLimits) (score : ℤ) → AtMost 1 (weight_of l score)
unfolding weight_of
weight_most l score =
    cond_elim (AtMost 1) (lt_z score l.zero) _ _ (λ e. record { counted = omega arith; scene = omega arith; m2 = omega arith; m1 = omega arith })
    (λ e.
    cond_elim (AtMost 1) (le_z l.scene score) _ _ (λ e. record { counted = omega arith; scene = omega arith; m2 = omega arith; m1 = omega arith })
    (λ e.
    cond_elim (AtMost 1) (le_z l.m2 score) _ _ (λ e. record { counted = omega arith; scene = omega arith; m2 = omega arith; m1 = omega arith })
    (λ e.
    cond_elim (AtMost 1) (le_z l.m1 score) _ _ (λ e. record { counted = omega arith; scene = omega arith; m2 = omega arith; m1 = omega arith })
    (λ e. record { counted = omega arith; scene = omega arith; m2 = omega arith; m1 = omega arith }))))

pub most_more : {j k : ℕ} {c : Counts} → AtMost j c → j ≤ k → AtMost k c
most_more {j} {k} {c} h e =
    record {
      counted = omega (arith, h.counted);
      scene = omega (arith, h.scene);
      m2 = omega (arith, h.m2);
      m1 = omega (arith, h.m1);
    }

-- n blocks add at most n
pub tallies_most : (l : SceneLimits) (score : ℕ → ℤ) (n : ℕ) → AtMost n (counts_by l score n)
unfolding counts_by tallied
tallies_most l score zero = record { counted = omega arith; scene = omega arith; m2 = omega arith; m1 = omega arith }
tallies_most l score (suc n) =
    let h = tallies_most l score n in
    let w = weight_most l (score n) in
    record {
      counted = omega (arith, h.counted, w.counted);
      scene = omega (arith, h.scene, w.scene);
      m2 = omega (arith, h.m2, w.m2);
      m1 = omega (arith, h.m1, w.m1);
    }

-- ---- the counts, block by block

pub counts_none : (l : SceneLimits) (score : ℕ → ℤ) → counts_by l score 0 ≡ tally 0 0 0 0
unfolding counts_by
counts_none l score = refl

pub counts_next : (l : SceneLimits) (score : ℕ → ℤ) (i : ℕ) → counts_by l score (i + 1) ≡ tallied (counts_by l score i) (weight_of l (score i))
unfolding counts_by
counts_next l score i = rw (add-one i)

tallied_assoc : (a b c : Counts) → tallied (tallied a b) c ≡ tallied a (tallied b c)
unfolding tallied
tallied_assoc a b c =
    λ i.
    tally
    (add_assoc a.counted b.counted c.counted i)
    (add_assoc a.scene b.scene c.scene i)
    (add_assoc a.m2 b.m2 c.m2 i)
    (add_assoc a.m1 b.m1 c.m1 i)

tallied_none : (a : Counts) → a ≡ tallied a (tally 0 0 0 0)
unfolding tallied
tallied_none a = λ i. tally (sym (add-zero a.counted) i) (sym (add-zero a.scene) i) (sym (add-zero a.m2) i) (sym (add-zero a.m1) i)

-- the first m blocks, and n more
pub counts_more : (l : SceneLimits) (score : ℕ → ℤ) (m n : ℕ) → counts_by l score (m + n) ≡ tallied (counts_by l score m) (counts_by l (λ (k : ℕ). score (m + k)) n)
unfolding counts_by
counts_more l score m zero = ap (counts_by l score) (add-zero m) ∙ tallied_none (counts_by l score m)
counts_more l score m (suc n) =
    ap (counts_by l score) (add-suc m n)
    ∙ ap (λ (c : Counts). tallied c (weight_of l (score (m + n)))) (counts_more l score m n)
    ∙ tallied_assoc (counts_by l score m) (counts_by l (λ (k : ℕ). score (m + k)) n) (weight_of l (score (m + n)))

-- equal scores, equal counts
pub counts_same : (l : SceneLimits) (f g : ℕ → ℤ) (n : ℕ) → ((i : ℕ) → i < n → f i ≡ g i) → counts_by l f n ≡ counts_by l g n
unfolding counts_by
counts_same l f g zero h = refl
counts_same l f g (suc n) h =
    λ i. tallied (counts_same l f g n (λ k m. h k (omega arith)) i) (weight_of l (h n (omega arith) i))

-- blocks below zero aren't counted
weight_below : (l : SceneLimits) (score : ℤ) → lt_z score l.zero ≡ true → weight_of l score ≡ tally 0 0 0 0
unfolding weight_of
weight_below l score e = cond_true _ _ _ e

pub counts_below : (l : SceneLimits) (score : ℕ → ℤ) (n : ℕ) → ((i : ℕ) → i < n → lt_z (score i) l.zero ≡ true) → counts_by l score n ≡ tally 0 0 0 0
unfolding counts_by tallied
counts_below l score zero h = refl
counts_below l score (suc n) h =
    λ i. tallied (counts_below l score n (λ k m. h k (omega arith)) i) (weight_below l (score n) (h n (omega arith)) i)

-- ---- what a class requires is an i32

pub required_fits : (blocks : ℤ) (counted : ℕ) → FitsSigned w32 (required_of blocks counted)
unfolding required_of
required_fits blocks counted = quot_fits w32 _ 100 (wrap_fits _)

-- ---- quality: an accepted call, and the front of a set

pub record QualityReady (s : FieldShape) (backward forward averages : ℕ) : Type 0 where
  pub sets : SetsReady s backward forward
  pub averages_room : blocks_of s ≤ averages

pub quality_ready : (s : FieldShape) (side backward forward averages : ℕ) → quality_number s side backward forward averages ≡ 0
    → QualityReady s backward forward averages
unfolding quality_number
quality_ready s side backward forward averages e =
    let z = both_zero (sets_number s backward forward) _ e in
    let room = length_ready (blocks_of s) averages 3 (λ q. omega arith) (both_zero _ (side_number side) z.1).0 in
    record { sets = sets_ready s backward forward z.0; averages_room = room }

-- a refusal that `?` hands on is the answer of its number
pub handed_class : (o : Result ℕ Refusal) (r : Refusal) → IsErrAnd o (λ e. e ≡ r) → graded_of o ≡ refused (code r)
handed_class (Ok class) r h = absurd h
handed_class (Err e) r h = ap (λ (s : Refusal). refused (code s)) h

-- an accepted call answers the class of the counts
pub quality_class : (s : FieldShape) (side : ℕ) (l : SceneLimits) (b f averages : List ℕ) → shape_accepted s ≡ true → side_accepted side ≡ true
    → set_size s ≤ length b → set_size s ≤ length f → blocks_of s ≤ length averages
    → (quality_of s side l b f averages).answer ≡ graded_of (Ok (class_of l.blocks (counts_of s l (set_of side b f) averages)))
unfolding quality_of quality_number
quality_class s side l b f averages shape two rb rf ra =
    let n : ℕ = quality_number s side (length b) (length f) (length averages) in
    let z : n ≡ 0 =
    first_zero _ _ (sets_number_lem s (length b) (length f) shape rb rf) ∙ passed (nat_le (blocks_of s) (length averages)) 3 _ (le-leb _ _ ra) ∙ side_number_lem side two in
    ap (λ (c : Classed). c.answer) (cond_true (n == 0) _ _ (eq-eqb n 0 z))

pub counts_front : (s : FieldShape) (l : SceneLimits) (set averages : List ℕ) → counts_of s l (take (set_size s) set) averages ≡ counts_of s l set averages
unfolding counts_of
counts_front s l set averages =
    counts_same l (score_at (take (set_size s) set) averages) (score_at set averages) (blocks_of s) (λ i h. score_front s set averages i h)

-- no count of an accepted shape's blocks is more than the blocks of the largest grid
pub counts_few : (s : FieldShape) (l : SceneLimits) (set averages : List ℕ) → Accepted s → AtMost 1048576 (counts_of s l set averages)
unfolding counts_of
counts_few s l set averages a = most_more (tallies_most l (score_at set averages) (blocks_of s)) (shape_bounds s a).blocks_most
