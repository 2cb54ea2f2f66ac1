-- The worked examples of paper 01's 'Proved table' that are of planes, map and class: K4 to K9, by computation.
use Rattle.std.specs.Prelude.{◌≡◌, ℕ, ◌<◌, true, false, ℤ, pos, negsuc, int_lt, refl}
use Rattle.std.proofs.Common.{ap}
use Rattle.arith.specs.Booleans.{and_not_right, cond_false}
use Rattle.record.specs.declared.shape.FieldShape.{FieldShape}
use Rattle.record.specs.Worked.{table_field}
use Rattle.maps.specs.declared.planes.Cell.{Cell}
use Rattle.maps.specs.declared.map.SceneLimits.{SceneLimits}
use Rattle.maps.specs.Planes.{held, clamp_of, component_of, packed_cell}
use Rattle.maps.specs.Map.{score_of, map_byte}
use Rattle.maps.specs.Class.{weight_of, tallied, counts_by, required_of, grade_of, class_of}
use Rattle.maps.specs.Class.Laws.{counts_below}
use Rattle.arith.specs.Wrap.{wrap32, res}

-- what a horizontal component v packs at position p, beside a vertical 0
pub packs : FieldShape → ℤ → ℕ → ℕ
packs s v p = (packed_cell s v (pos 0) (pos p) (pos 0)).x

-- both planes 1024
pub neutral : Cell
neutral = record { x = 1024; y = 1024 }

-- K4: a block at 16 ends where a picture of 24 does. 5 to the right is none, 1024; 20 to the left is 16, 1008
pub record K4 : Type 0 where
  pub five : packs (table_field (pos 0) (pos 24) (pos 0)) (pos 5) 16 ≡ 1024
  pub minus_twenty : packs (table_field (pos 0) (pos 24) (pos 0)) (negsuc 19) 16 ≡ 1008

pub k4 : K4
unfolding table_field packs packed_cell held component_of clamp_of
k4 = record { five = refl; minus_twenty = refl }

-- K5: a block at 16 ends 4 past a picture of 20. 3 to the left is none, 1024; 4 to the left suffices, 1020
pub record K5 : Type 0 where
  pub minus_three : packs (table_field (pos 0) (pos 20) (pos 0)) (negsuc 2) 16 ≡ 1024
  pub minus_four : packs (table_field (pos 0) (pos 20) (pos 0)) (negsuc 3) 16 ≡ 1020

pub k5 : K5
unfolding table_field packs packed_cell held component_of clamp_of
k5 = record { minus_three = refl; minus_four = refl }

-- K6: a vector with x 1024 or y -1024 has neutral cells, whatever its other component, the position and the shape; the widest that are held, unclamped,
-- pack 2047 and 1
pub record K6 : Type 0 where
  pub x_beyond : (s : FieldShape) (y px py : ℤ) → packed_cell s (pos 1024) y px py ≡ neutral
  pub y_beyond : (s : FieldShape) (x px py : ℤ) → packed_cell s x (negsuc 1023) px py ≡ neutral
  pub most : (p : ℕ) → packs (table_field (pos 0) (pos 24) (pos 1)) (pos 1023) p ≡ 2047
  pub least : (p : ℕ) → packs (table_field (pos 0) (pos 24) (pos 1)) (negsuc 1022) p ≡ 1

pub k6 : K6
unfolding table_field packs neutral packed_cell held component_of
k6 =
    record {
      x_beyond = λ s y px py. refl;
      y_beyond = λ s x px py. cond_false _ _ _ (and_not_right (held x) false refl);
      most = λ p. refl;
      least = λ p. refl;
    }

-- K7: at an average of 200, the first sad whose score reaches a `zero` of 200 is 157, whatever the other limits
pub record K7 : Type 0 where
  pub below : (blocks m2 scene : ℤ) → map_byte (record { blocks = blocks; zero = pos 200; m1 = pos 1600; m2 = m2; scene = scene }) (score_of (pos 156) 200) ≡ 255
  pub reached : (blocks m2 scene : ℤ) → map_byte (record { blocks = blocks; zero = pos 200; m1 = pos 1600; m2 = m2; scene = scene }) (score_of (pos 157) 200) ≡ 0

pub k7 : K7
unfolding map_byte score_of wrap32 res
k7 = record { below = λ blocks m2 scene. refl; reached = λ blocks m2 scene. refl }

-- the limits 200, 1600, 2800, 4000, and blocks 20
pub limits : SceneLimits
limits = record { blocks = pos 20; zero = pos 200; m1 = pos 1600; m2 = pos 2800; scene = pos 4000 }

-- K8: at an average of 1, the largest score is that of sad 8421504; the next wraps and is below `zero`
pub record K8 : Type 0 where
  pub most : map_byte limits (score_of (pos 8421504) 1) ≡ 3
  pub wrapped : score_of (pos 8421505) 1 ≡ negsuc 2147483520
  pub below : map_byte limits (score_of (pos 8421505) 1) ≡ 255

pub k8 : K8
unfolding limits map_byte score_of wrap32 res
k8 = record { most = refl; wrapped = refl; below = refl }

-- K9: with `blocks` 20, r is 0 up to four counted blocks, so that their class is 3; it is 1 for five, and five at m1 have class 1
pub record K9 : Type 0 where
  pub none : (n : ℕ) (score : ℕ → ℤ) → ((i : ℕ) → i < n → int_lt (score i) limits.zero ≡ true) → class_of (pos 20) (counts_by limits score n) ≡ 3
  pub four : class_of (pos 20) (counts_by limits (λ i. pos 1600) 4) ≡ 3
  pub four_required : required_of (pos 20) (counts_by limits (λ i. pos 1600) 4).counted ≡ pos 0
  pub five : class_of (pos 20) (counts_by limits (λ i. pos 1600) 5) ≡ 1

pub k9 : K9
unfolding limits counts_by tallied weight_of class_of grade_of required_of wrap32 res
k9 = record { none = λ n score h. ap (class_of (pos 20)) (counts_below limits score n h); four = refl; four_required = refl; five = refl }
