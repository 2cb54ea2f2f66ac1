-- Laws of arrays of lanes: how far from 0 their numbers lie, and one axis of a chunk.
use Rattle.std.specs.Prelude.{◌≡◌, refl, List, ℕ, ◌^◌, ◌≤◌, ◌<◌, ℤ, pos, nat_abs, ◌*ℤ◌, length, get_or, replicate}
use Rattle.std.proofs.Common.{sym, ap, ◌∙◌, subst, arith, Fits, SFits, to_z, of_z}
use Rattle.std.proofs.Math.Decide.{dec_lt}
use Rattle.std.proofs.lemmas.List.{get_or-replicate}
use Rattle.std.proofs.Math.ListN.{get_or-eq_default}
use Rattle.std.specs.Int.Signed.{quot_z, nat_abs-le}
use mir.Syntax.{w8, w32}
use Rattle.arith.specs.Filling.{fill_length, filled_at, filled_past}
use Rattle.arith.specs.Signed.{back}
use Rattle.arith.specs.Splice.{over}
use Rattle.arith.specs.Tabulate.{tab}
use Rattle.record.specs.Entries.{entry_at}
use Rattle.record.specs.Entries.Again.{entry_holds}
use Rattle.record.specs.declared.shape.FieldShape.{FieldShape}
use Rattle.scatter.specs.declared.geometry.Scatter.{Scatter}
use Rattle.scatter.specs.Block.{reach, t_of, q_of}
use Rattle.scatter.specs.Block.Laws.{t_most}
use Rattle.scatter.specs.Geometry.Laws.{time_most, time_back}
use Rattle.fast.specs.Condition.Laws.{shift_most, shift_is}
use Rattle.fast.specs.declared.divide.FloorDiv.{FloorDiv}
use Rattle.fast.specs.Reciprocal.{DivReady}
use Rattle.fast.specs.Lanes.{lanes, scaled_at, floored_at, Shifted, Bounded, AxisRoom, AxisFloors, Moved}

-- an array whose first n numbers are those of f, with a bound on both them and the rest
filled_bounded : (b : ℕ) (f : ℕ → ℤ) (n : ℕ) (l m : List ℤ) → m ≡ over (tab f n) l → ((k : ℕ) → nat_abs (f k) ≤ b)
    → ((k : ℕ) → n ≤ k → nat_abs (get_or l k (pos 0)) ≤ b) → Bounded b m
filled_bounded b f n l m e h r = record { most = λ k. go k (dec_lt k n) }
  where
    go : (k : ℕ) → Dec (k < n) → nat_abs (get_or m k (pos 0)) ≤ b
    go k (yes p) = subst (λ (z : ℤ). nat_abs z ≤ b) (sym (filled_at f m l n k (pos 0) e p)) (h k)
    go k (no p) = subst (λ (z : ℤ). nat_abs z ≤ b) (sym (filled_past f m l n k (pos 0) e (omega arith))) (r k (omega arith))

-- past the end of an array nothing stands
past_bounded : (b : ℕ) (l : List ℤ) (k : ℕ) → length l ≤ k → nat_abs (get_or l k (pos 0)) ≤ b
past_bounded b l k h = subst (λ (z : ℤ). nat_abs z ≤ b) (sym (get_or-eq_default l (pos 0) h)) (omega arith)

-- ---- the components of a vector

-- two bytes read as signed are at most 32,768 from 0
module _ (set : List ℕ) (i : ℕ) (h : (j : ℕ) → Fits w8 (get_or set j 0)) where
  pub x_most : nat_abs (entry_at set i).x ≤ 32768
  x_most = nat_abs-le (entry_at set i).x (entry_holds set i (λ j. (h j).fits)).x.sfits

  pub y_most : nat_abs (entry_at set i).y ≤ 32768
  y_most = nat_abs-le (entry_at set i).y (entry_holds set i (λ j. (h j).fits)).y.sfits

-- ---- lanes that were 0, of which the first hold the components of blocks

module _ (w : ℕ → ℤ) (count : ℕ) (m : List ℤ) (e : m ≡ over (tab w count) (replicate lanes (pos 0))) (c : count ≤ lanes) where
  pub axis_room : (g : Scatter) (shift : ℕ) (step : FloorDiv) → Shifted g shift → DivReady step → ((k : ℕ) → nat_abs (w k) ≤ 32768)
      → AxisRoom g shift step m lanes lanes
  axis_room g shift step q r h =
      record {
        shifted = q;
        ready = r;
        small = filled_bounded 32768 w count (replicate lanes (pos 0)) m e h (λ k o. zero_bounded k (dec_lt k lanes));
        v_room = fill_length w m (replicate lanes (pos 0)) count (omega arith) e;
        t_room = refl;
        q_room = refl;
      }
    where
      zero_bounded : (k : ℕ) → Dec (k < lanes) → nat_abs (get_or (replicate lanes (pos 0)) k (pos 0)) ≤ 32768
      zero_bounded k (yes p) = subst (λ (z : ℤ). nat_abs z ≤ 32768) (sym (get_or-replicate lanes k (pos 0) (pos 0) p)) (omega arith)
      zero_bounded k (no p) = past_bounded 32768 (replicate lanes (pos 0)) k (omega arith)

  -- what holds of all lanes holds of the blocks
  pub moved_of : (s : FieldShape) (T : ℤ) (D step : ℕ) (t q : List ℤ) → D ≡ step → Moved s T D (λ k. get_or m k (pos 0)) lanes t q → Moved s T step w count t q
  moved_of s T D step t q d a =
      let f = a.floors in
      record {
        moved = λ k o. a.moved k (omega arith) ∙ ap (t_of s T) (filled_at w m (replicate lanes (pos 0)) count k (pos 0) e o);
        floors =
            record {
              t_length = omega (arith, f.t_length);
              q_length = omega (arith, f.q_length);
              most = λ k o. f.most k (omega arith);
              floored = λ k o. f.floored k (omega arith) ∙ ap (λ (n : ℕ). q_of n (get_or t k (pos 0))) d;
            };
      }

-- ---- one axis of all lanes

module _ (g : Scatter) (shift : ℕ) (q : Shifted g shift) where
  pub time_small : nat_abs (to_z w32 (of_z w32 g.time)) ≤ 65535
  time_small = subst (λ (z : ℤ). nat_abs z ≤ 65535) (sym (time_back q.geometry.timed)) (time_most q.geometry.timed)

  pub shift_small : shift ≤ 14
  shift_small = subst (λ (n : ℕ). n ≤ 14) (sym q.is) (shift_most g.shape q.taken)

module _ (g : Scatter) (shift : ℕ) (q : Shifted g shift) (m : List ℤ) (w : Bounded 32768 m) where
  -- what the code works out of lane k
  scaled_is : (k : ℕ) → scaled_at m (to_z w32 (of_z w32 g.time)) shift k ≡ t_of g.shape g.time (get_or m k (pos 0))
  scaled_is k =
      (λ i. quot_z (time_back q.geometry.timed i *ℤ get_or m k (pos 0)) (pos (2 ^ q.is i)))
      ∙ shift_is g.shape g.time (get_or m k (pos 0)) q.geometry.accepted q.taken

  scaled_most : (k : ℕ) → nat_abs (scaled_at m (to_z w32 (of_z w32 g.time)) shift k) ≤ reach
  scaled_most k =
      subst (λ (z : ℤ). nat_abs z ≤ reach) (sym (scaled_is k)) (t_most g.shape g.time (get_or m k (pos 0)) q.geometry.accepted q.geometry.timed (w.most k))

  module _ (t s : List ℤ) (n : length t ≡ lanes) (e : s ≡ over (tab (scaled_at m (to_z w32 (of_z w32 g.time)) shift) lanes) t) where
    pub scaled_bounded : Bounded reach s
    scaled_bounded =
        filled_bounded reach (scaled_at m (to_z w32 (of_z w32 g.time)) shift) lanes t s e scaled_most
        (λ k o. past_bounded reach t k (omega arith))

    pub axis_moved : (D : ℤ) (l r : List ℤ) → length l ≡ lanes → r ≡ over (tab (floored_at s D) lanes) l
        → Moved g.shape g.time (nat_abs D) (λ k. get_or m k (pos 0)) lanes s r
    unfolding q_of
    axis_moved D l r o p =
        record {
          moved =
              λ k h. filled_at (scaled_at m (to_z w32 (of_z w32 g.time)) shift) s t lanes k (pos 0) e h ∙ scaled_is k;
          floors =
              record {
                t_length = omega (arith, fill_length _ s t lanes (omega arith) e);
                q_length = omega (arith, fill_length _ r l lanes (omega arith) p);
                most = λ k h. scaled_bounded.most k;
                floored = λ k h. filled_at (floored_at s D) r l lanes k (pos 0) p h;
              };
        }

-- lane k, as code reads it back
pub lane_read : {step count : ℕ} {t q : List ℤ} → AxisFloors step count t q → (k : ℕ) → k < count → SFits w32 (get_or t k (pos 0)) → SFits w32 (get_or q k (pos 0))
    → (nat_abs (to_z w32 (of_z w32 (get_or t k (pos 0)))) ≤ reach) × (to_z w32 (of_z w32 (get_or q k (pos 0))) ≡ q_of step (to_z w32 (of_z w32 (get_or t k (pos 0)))))
lane_read a k h f g = rw (back w32 f, back w32 g) (a.most k h, a.floored k h)
