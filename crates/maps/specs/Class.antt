-- The class of a picture (paper 01, 'Masks and class'): the counts of its blocks, and the class of the counts.
use Rattle.std.specs.Prelude.{ℕ, zero, suc, ◌+◌, Bool, true, false, cond, Result, Ok, Err, List, length, ℤ, pos, ◌*ℤ◌, ◌==◌, int_div, int_le, int_lt, nat_le}
use Rattle.arith.specs.Wrap.{wrap32}
use Rattle.record.specs.declared.shape.FieldShape.{FieldShape}
use Rattle.record.specs.Shape.{blocks_of}
use Rattle.record.specs.Entries.{set_of}
use Rattle.record.specs.Checks.{sets_number, side_number}
use Rattle.record.specs.Numbers.{first, unless}
use Rattle.record.specs.declared.refusal.Refusal.{Refusal}
use Rattle.record.specs.Refusals.{code}
use Rattle.maps.specs.declared.map.SceneLimits.{SceneLimits}
use Rattle.maps.specs.declared.class.Counts.{Counts}
use Rattle.maps.specs.Map.{score_at}
pub mod Laws

-- ---- the counts

abbrev pub tally : ℕ → ℕ → ℕ → ℕ → Counts
tally counted scene m2 m1 = record { counted = counted; scene = scene; m2 = m2; m1 = m1 }

-- what a block adds to the counts, by its score: below `zero` nothing; else 1 to those counted, and 1 to at most one kind: scene is tried
-- before m2, and m2 before m1
unfoldable pub weight_of : SceneLimits → ℤ → Counts
weight_of l score =
    cond (int_lt score l.zero) (tally 0 0 0 0)
    (cond (int_le l.scene score) (tally 1 1 0 0)
    (cond (int_le l.m2 score) (tally 1 0 1 0) (cond (int_le l.m1 score) (tally 1 0 0 1) (tally 1 0 0 0))))

unfoldable pub tallied : Counts → Counts → Counts
tallied a b = tally (a.counted + b.counted) (a.scene + b.scene) (a.m2 + b.m2) (a.m1 + b.m1)

-- the counts of blocks 0 to n - 1, by their scores
unfoldable pub counts_by : SceneLimits → (ℕ → ℤ) → ℕ → Counts
counts_by l score zero = tally 0 0 0 0
counts_by l score (suc n) = tallied (counts_by l score n) (weight_of l (score n))

unfoldable pub counts_of : FieldShape → SceneLimits → List ℕ → List ℕ → Counts
counts_of s l set averages = counts_by l (score_at set averages) (blocks_of s)

-- ---- the class of counts

-- r, what a class asks for: `blocks` hundredths of the counted blocks, the product an i32 that may wrap, rounded towards 0
unfoldable pub required_of : ℤ → ℕ → ℤ
required_of blocks counted = int_div (wrap32 (blocks *ℤ pos counted)) (pos 100)

-- the class by r: 3 for scene, 2 for m2, 1 for m1, of the first whose count, with those before it, is at least r; 0 where none is
unfoldable pub grade_of : ℤ → ℕ → ℕ → ℕ → ℕ
grade_of r scene m2 m1 = cond (int_le r (pos scene)) 3 (cond (int_le r (pos (scene + m2))) 2 (cond (int_le r (pos (scene + m2 + m1))) 1 0))

-- paper 01's class, of the limit `blocks` and of counts
unfoldable pub class_of : ℤ → Counts → ℕ
class_of blocks c = grade_of (required_of blocks c.counted) c.scene c.m2 c.m1

-- ---- quality

-- 2 the shape; 3 a set or the averages too short; 8 the side
unfoldable pub quality_number : FieldShape → ℕ → ℕ → ℕ → ℕ → ℕ
quality_number s side backward forward averages =
    first (sets_number s backward forward) (first (unless (nat_le (blocks_of s) averages) 3) (side_number side))

-- an answer: whether the call is accepted, paper 01's number, and the class, 0 beside a refusal
pub record Graded : Type 0 where
  pub accepted : Bool
  pub number : ℕ
  pub class : ℕ

-- a class, and a refusal by its number
abbrev pub graded : ℕ → Graded
graded class = record { accepted = true; number = 0; class = class }

abbrev pub refused : ℕ → Graded
refused number = record { accepted = false; number = number; class = 0 }

-- what each case of the outcome means
abbrev pub graded_of : Result ℕ Refusal → Graded
graded_of (Ok class) = graded class
graded_of (Err refusal) = refused (code refusal)

-- what quality answers and leaves
pub record Classed : Type 0 where
  pub answer : Graded
  pub backward : List ℕ
  pub forward : List ℕ
  pub averages : List ℕ

abbrev pub classed : Graded → List ℕ → List ℕ → List ℕ → Classed
classed answer backward forward averages = record { answer = answer; backward = backward; forward = forward; averages = averages }

unfoldable pub quality_of : FieldShape → ℕ → SceneLimits → List ℕ → List ℕ → List ℕ → Classed
quality_of s side l b f averages =
    let number : ℕ = quality_number s side (length b) (length f) (length averages) in
    let class : ℕ = class_of l.blocks (counts_of s l (set_of side b f) averages) in
    cond (number == 0) (classed (graded class) b f averages) (classed (refused number) b f averages)
