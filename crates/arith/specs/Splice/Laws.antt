-- Laws of values written in the place of others.
use Rattle.std.specs.Prelude.{◌≡◌, ℕ, suc, ◌+◌, ◌-◌, ◌<◌, ◌≤◌, List, [], ◌∷◌, ◌++◌, length, get_or, take, drop, set, slice_index_or, slice_range, slice_set}
use Rattle.std.proofs.Math.Path.{refl, sym, ap}
use Rattle.std.proofs.Common.{◌∙◌, zero-add, add-one, length-set, drop_of_length-le, take_all, take-suc, take-add, drop-cons}
use mathlib.Core.List.{append_assoc, append-nil}
use Rattle.std.proofs.Math.Nat.{add_assoc}
use Rattle.std.proofs.Math.Numerals.{add-two, add-three}
use native.Mathlib.Omega.{arith}
use Rattle.std.proofs.Math.ListN.{length-append, length-drop, take-append-drop, get_or-append}
use Rattle.std.proofs.Math.Seq.{take_at, drop_at, drop-append-add, get_or-append-add, get_or-take, get_or-drop, length-take-le, drop-drop, set_at, set-append_left, sets-eq}
use Rattle.std.proofs.lemmas.List.{drop-append-le}
use Rattle.arith.specs.Splice.{over, splice}

module _ {A : Type 0} where
  -- ---- over the front

  pub length_over : (v l : List A) → length v ≤ length l → length (over v l) ≡ length l
  unfolding over
  length_over v l h = simp (length-append, length-drop) (omega arith)

  pub over_front : (v l : List A) (k : ℕ) (d : A) → k < length v → slice_index_or (over v l) k d ≡ slice_index_or v k d
  unfolding over
  over_front v l k d h = get_or-append v _ d k h

  pub over_past : (v l : List A) (k : ℕ) (d : A) → length v ≤ k → slice_index_or (over v l) k d ≡ slice_index_or l k d
  unfolding over
  over_past v l k d h =
      let e : k ≡ length v + (k - length v) = omega arith in
      ap (λ (j : ℕ). get_or (v ++ drop (length v) l) j d) e
      ∙ get_or-append-add v (drop (length v) l) (k - length v) d
      ∙ get_or-drop (length v) l (k - length v) d
      ∙ ap (λ (j : ℕ). get_or l j d) (sym e)

  -- the front
  pub take_over : (v l : List A) (n : ℕ) → length v ≡ n → take n (over v l) ≡ v
  unfolding over
  take_over v l n e = take_at v _ n e

  -- a value set within the front
  pub set_over : (v l : List A) (i : ℕ) (x : A) → i < length v → slice_set (over v l) i x ≡ over (slice_set v i x) l
  unfolding over
  set_over v l i x h =
      set-append_left v (drop (length v) l) i x h ∙ ap (λ (n : ℕ). slice_set v i x ++ drop n l) (sym (length-set v i x))

  -- values over fewer ones
  pub over_longer : (v w l : List A) → length w ≤ length v → over v (over w l) ≡ over v l
  unfolding over
  over_longer v w l h =
      let e : length v ≡ length w + (length v - length w) = omega arith in
      ap (λ (r : List A). v ++ r)
      (ap (λ (n : ℕ). drop n (w ++ drop (length w) l)) e
      ∙ drop-append-add w (drop (length w) l) (length v - length w)
      ∙ drop-drop (length v - length w) (length w) l
      ∙ ap (λ (n : ℕ). drop n l) (sym e))

  pub over_over : (v w l : List A) → length v ≡ length w → over v (over w l) ≡ over v l
  over_over v w l e = over_longer v w l (omega (arith, e))

  -- values as many as the list's own are all of it
  pub over_all : (v l : List A) → length v ≡ length l → over v l ≡ v
  unfolding over
  over_all v l e = ap (λ (r : List A). v ++ r) (drop_of_length-le l {i = length v} (omega arith)) ∙ append-nil v

  -- the same, as values over those, in front of what lies past both
  pub over_front_part : (v w l : List A) → length v ≡ length w → over v (over w l) ≡ over (over v w) l
  over_front_part v w l e = over_over v w l e ∙ ap (λ (x : List A). over x l) (sym (over_all v w e))

  pub over_zero : (s l : List A) → over (take 0 s) l ≡ l
  unfolding over
  over_zero s l = refl

  -- one more value stored behind those over the front
  pub over_snoc : (v l : List A) (x : A) (i : ℕ) → length v ≡ i → i < length l → slice_set (over v l) i x ≡ over (v ++ (x ∷ [])) l
  unfolding over
  over_snoc v l x i e h =
      let n : suc i ≡ length (v ++ (x ∷ [])) = simp length-append (omega arith) in
      ap (λ (n : ℕ). set (v ++ drop n l) i x) e
      ∙ ap (λ (r : List A). set (v ++ r) i x) (drop-cons l i x h)
      ∙ set_at v (slice_index_or l i x) (drop (suc i) l) x i e
      ∙ sym (append_assoc v (x ∷ []) (drop (suc i) l))
      ∙ ap (λ (n : ℕ). (v ++ (x ∷ [])) ++ drop n l) n

  -- copying one more value of another list
  pub over_take_suc : (d : A) (s l : List A) (i : ℕ) → i < length s → i < length l
      → slice_set (over (take i s) l) i (slice_index_or s i d) ≡ over (take (i + 1) s) l
  over_take_suc d s l i h k =
      over_snoc (take i s) l (slice_index_or s i d) i (length-take-le i s (omega arith)) k
      ∙ ap (λ (v : List A). over v l) (sym (take-suc s i d h) ∙ ap (λ (n : ℕ). take n s) (sym (add-one i)))

  -- what is written over the front of a part of k values, in the whole
  over_part : (v l : List A) (k : ℕ) → length v ≤ length (take k l) → over v (take k l) ++ drop k l ≡ over v l
  unfolding over
  over_part v l k h =
      append_assoc v (drop (length v) (take k l)) (drop k l)
      ∙ ap (λ (r : List A). v ++ r) (sym (drop-append-le (length v) (take k l) (drop k l) h) ∙ ap (drop (length v)) (take-append-drop k l))

  -- ---- in the middle

  -- what is left from a place on is all of it
  pub take_rest : (l : List A) (at : ℕ) → take (length l - at) (drop at l) ≡ drop at l
  take_rest l at = take_all (length l - at) (drop at l) (simp length-drop (omega arith))

  -- a part, cut in front first or behind first
  pub take_drop : (l : List A) (start end : ℕ) → start ≤ end → end ≤ length l → slice_range l start end ≡ drop start (take end l)
  take_drop l start end h w =
      let e : end ≡ start + (end - start) = omega arith in
      sym (ap (λ (n : ℕ). drop start (take n l)) e ∙ ap (drop start) (take-add start (end - start) l) ∙ drop_at (take start l) _ start (length-take-le start l (omega arith)))

  -- a splice at the start, and any splice as values over the front
  pub splice_front : (v l : List A) → splice 0 v l ≡ over v l
  unfolding over splice
  splice_front v l = ap (λ (n : ℕ). v ++ drop n l) (zero-add (length v))

  pub splice_over : (at : ℕ) (v l : List A) → at ≤ length l → splice at v l ≡ over (take at l ++ v) l
  unfolding over splice
  splice_over at v l h = rw (length-append (take at l) v, length-take-le at l h, append_assoc (take at l) v)

  -- copying n more values of another list, behind those copied before
  pub over_take_add : (s l : List A) (at n : ℕ) → at + n ≤ length s → at + n ≤ length l → splice at (take n (drop at s)) (over (take at s) l) ≡ over (take (at + n) s) l
  over_take_add s l at n h k =
      let a : length (take at s) ≡ at = length-take-le at s (omega arith) in
      splice_over at (take n (drop at s)) (over (take at s) l) (omega (arith, length_over (take at s) l (omega (arith, a))))
      ∙ ap (λ (v : List A). over (v ++ take n (drop at s)) (over (take at s) l)) (take_over (take at s) l at a)
      ∙ ap (λ (v : List A). over v (over (take at s) l)) (sym (take-add at n s))
      ∙ over_longer (take (at + n) s) (take at s) l (rw (a, length-take-le (at + n) s h) (omega arith))

  -- a part of k values from `at` on, lent, written at its front and handed back
  pub part_written : (at k : ℕ) (v l r : List A) → length v ≤ length (take k (drop at l)) → r ≡ over v (take k (drop at l))
      → take at l ++ (r ++ drop k (drop at l)) ≡ splice at v l
  unfolding over splice
  part_written at k v l r h e =
      ap (λ (x : List A). take at l ++ (x ++ drop k (drop at l))) e
      ∙ ap (λ (x : List A). take at l ++ x) (over_part v (drop at l) k h ∙ ap (λ (x : List A). v ++ x) (drop-drop (length v) at l))

  -- the same of all that is left from `at` on
  pub rest_written : (at : ℕ) (v l r : List A) → at + length v ≤ length l → r ≡ over v (take (length l - at) (drop at l))
      → take at l ++ (r ++ drop (length l - at) (drop at l)) ≡ splice at v l
  rest_written at v l r h e = part_written at (length l - at) v l r (rw (take_rest l at, length-drop at l) (omega arith)) e

  pub length_splice : (at : ℕ) (v l : List A) → at + length v ≤ length l → length (splice at v l) ≡ length l
  unfolding splice
  length_splice at v l h = simp (length-append, length-take-le at l (omega arith), length-drop) (omega arith)

  pub splice_before : (at : ℕ) (v l : List A) (k : ℕ) (d : A) → at ≤ length l → k < at → slice_index_or (splice at v l) k d ≡ slice_index_or l k d
  unfolding splice
  splice_before at v l k d h m =
      get_or-append (take at l) _ d k (rw (length-take-le at l h) m) ∙ get_or-take at l k d m

  pub splice_in : (at : ℕ) (v l : List A) (k : ℕ) (d : A) → at ≤ length l → k < length v → slice_index_or (splice at v l) (at + k) d ≡ slice_index_or v k d
  unfolding splice
  splice_in at v l k d h m =
      ap (λ (j : ℕ). get_or (take at l ++ (v ++ drop (at + length v) l)) (j + k) d) (sym (length-take-le at l h))
      ∙ get_or-append-add (take at l) _ k d
      ∙ get_or-append v _ d k m

  pub splice_after : (at : ℕ) (v l : List A) (k : ℕ) (d : A) → at ≤ length l → at + length v ≤ k → slice_index_or (splice at v l) k d ≡ slice_index_or l k d
  unfolding splice
  splice_after at v l k d h m =
      let r : ℕ = k - (at + length v) in
      let e : k ≡ at + (length v + r) = omega arith in
      let f : k ≡ (at + length v) + r = omega arith in
      ap (λ (j : ℕ). get_or (take at l ++ (v ++ drop (at + length v) l)) j d) e
      ∙ ap (λ (j : ℕ). get_or (take at l ++ (v ++ drop (at + length v) l)) (j + (length v + r)) d) (sym (length-take-le at l h))
      ∙ get_or-append-add (take at l) _ (length v + r) d
      ∙ get_or-append-add v _ r d
      ∙ get_or-drop (at + length v) l r d
      ∙ ap (λ (j : ℕ). get_or l j d) (sym f)

  -- one part behind another is one part
  pub splice_splice : (at : ℕ) (v w l : List A) (n : ℕ) → n ≡ at + length v → n + length w ≤ length l
      → splice n w (splice at v l) ≡ splice at (v ++ w) l
  unfolding splice
  splice_splice at v w l n e h =
      let i : length (take at l ++ v) ≡ n = length-append (take at l) v ∙ rw (length-take-le at l (omega arith), e) in
      rw (
        ← append_assoc (take at l) v (drop (at + length v) l),
        take_at (take at l ++ v) (drop (at + length v) l) n i,
        append_assoc (take at l) v (drop (at + length v) l),
        after i,
        append_assoc (take at l) v,
        append_assoc v w,
        length-append v w,
      )
    where
      after : length (take at l ++ v) ≡ n → drop (n + length w) (take at l ++ (v ++ drop (at + length v) l)) ≡ drop (at + (length v + length w)) l
      after i =
          rw (
            ← append_assoc (take at l) v (drop (at + length v) l),
            ← i,
            drop-append-add (take at l ++ v) (drop (at + length v) l) (length w),
            drop-drop,
            add_assoc,
          )

  -- a part in the middle is replaced by one as long
  splice_mid : (a m v z : List A) (n : ℕ) → length a ≡ n → length m ≡ length v → splice n v (a ++ (m ++ z)) ≡ a ++ (v ++ z)
  unfolding splice
  splice_mid a m v z n e q =
      rw (
        take_at a (m ++ z) n e,
        ← append_assoc a m z,
        drop_at (a ++ m) z (n + length v) (simp length-append (omega arith)),
      )

  -- a part put in the place of another as long
  pub splice_again : (at : ℕ) (v w l : List A) → length v ≡ length w → at + length v ≤ length l → splice at w (splice at v l) ≡ splice at w l
  unfolding splice
  splice_again at v w l e h =
      splice_mid (take at l) v w (drop (at + length v) l) at (length-take-le at l (omega arith)) e
      ∙ ap (λ (n : ℕ). take at l ++ (w ++ drop (at + n) l)) e

  -- what a list already has there changes nothing
  pub splice_same : (at n : ℕ) (l : List A) → at + n ≤ length l → splice at (take n (drop at l)) l ≡ l
  unfolding splice
  splice_same at n l h =
      rw (length-take-le n (drop at l) (simp length-drop (omega arith)), ← drop-drop n at l, take-append-drop n (drop at l))
      (take-append-drop at l)

  -- four stores in a row
  pub splice_four : (l : List A) (at : ℕ) (a b c d : A) → at + 4 ≤ length l
      → slice_set (slice_set (slice_set (slice_set l at a) (at + 1) b) (at + 2) c) (at + 3) d ≡ splice at (a ∷ (b ∷ (c ∷ (d ∷ [])))) l
  unfolding splice
  splice_four l at a b c d h =
      rw (add-one at, add-two at, add-three at, sets-eq (a ∷ (b ∷ (c ∷ (d ∷ [])))) l at h)
      (append_assoc (take at l) (a ∷ (b ∷ (c ∷ (d ∷ [])))) (drop (at + 4) l))
