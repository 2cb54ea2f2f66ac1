-- Entries read and written again: an entry of bytes, every byte as it was, two writes in either order, and surplus that is not looked at.
use Rattle.std.specs.Prelude.{◌≡◌, ◌≢◌, ℕ, ◌+◌, ◌*◌, ◌/◌, ◌%◌, ◌≤◌, ◌<◌, length, take, drop}
use Rattle.std.proofs.Math.Path.{refl, sym, ap}
use Rattle.std.proofs.Common.{◌∙◌, arith, ext_get_or, get_or-take, get_or-drop, of_z}
use mathlib.Core.List.{List, [], ◌∷◌, ◌++◌, append_assoc}
use Rattle.std.proofs.Math.Decide.{dec_lt}
use Rattle.std.proofs.Math.ListN.{get_or, length-drop}
use Rattle.std.proofs.lemmas.List.{take-append-le, drop-append-le}
use mir.Syntax.{w16}
use Rattle.std.proofs.Math.Facts.{Fits-of_z}
use mir.ValLaws.{of_z-to_z}
use Rattle.arith.specs.Integers.{up}
use Rattle.arith.specs.Splice.{over, splice}
use Rattle.arith.specs.Splice.Laws.{over_front, splice_again, splice_same}
use Rattle.record.specs.declared.entry.BlockVector.{BlockVector}
use Rattle.record.specs.declared.shape.FieldShape.{FieldShape}
use Rattle.record.specs.Bytes.{Bytes, u16_at, u24_at, i16_at}
use Rattle.record.specs.Bytes.Laws.{bytes_nil, bytes_cons, bytes_splice, i16_fits}
use Rattle.record.specs.Shape.{blocks_of, set_size}
use Rattle.record.specs.Entries.{entry_at, entry_bytes, with_entry, set_of, Holds}
use Rattle.record.specs.Entries.Laws.{length_entry_bytes, length_with_entry, set_either, byte_written, byte_kept, entry_of}

-- ---- an entry of bytes, and the bytes of an entry

pub entry_holds : (set : List ℕ) (i : ℕ) → Bytes set → Holds (entry_at set i)
unfolding entry_at u24_at
entry_holds set i b =
    record {
      x = i16_fits set (8 * i + 2) b;
      y = i16_fits set (8 * i) b;
      sad_is = refl;
      sad_most_lem = omega (arith, b (8 * i + 4), b (8 * i + 4 + 1), b (8 * i + 4 + 2));
      luma = b (8 * i + 7);
    }

-- of the set of a side
pub side_entry_holds : (side block : ℕ) (b f : List ℕ) → Bytes b → Bytes f → Holds (entry_at (set_of side b f) block)
side_entry_holds side block b f hb hf = entry_holds (set_of side b f) block (set_either Bytes side b f hb hf)

bytes_eight : (a b c d e f g h : ℕ) → a < 256 → b < 256 → c < 256 → d < 256 → e < 256 → f < 256 → g < 256 → h < 256 → Bytes (a ∷ b ∷ c ∷ d ∷ e ∷ f ∷ g ∷ h ∷ [])
bytes_eight a b c d e f g h a' b' c' d' e' f' g' h' =
    bytes_cons a (b ∷ c ∷ d ∷ e ∷ f ∷ g ∷ h ∷ []) a' (bytes_cons b (c ∷ d ∷ e ∷ f ∷ g ∷ h ∷ []) b' (bytes_cons c (d ∷ e ∷ f ∷ g ∷ h ∷ []) c' (bytes_cons d (e ∷ f ∷ g ∷ h ∷ []) d' (bytes_cons e (f ∷ g ∷ h ∷ []) e' (bytes_cons f (g ∷ h ∷ []) f' (bytes_cons g (h ∷ []) g' (bytes_cons h [] h' bytes_nil)))))))

entry_bytes_lem : (v : BlockVector) → Holds v → Bytes (entry_bytes v)
unfolding entry_bytes
entry_bytes_lem v h =
    bytes_eight _ _ _ _ _ _ _ _ (below_256 (of_z w16 v.y)) (over_256 (of_z w16 v.y) (Fits-of_z h.y).fits)
    (below_256 (of_z w16 v.x)) (over_256 (of_z w16 v.x) (Fits-of_z h.x).fits) (below_256 (up v.sad))
    (below_256 (up v.sad / 256)) (third (up v.sad) h.sad_most_lem) h.luma
  where
    below_256 : (n : ℕ) → n % 256 < 256
    below_256 n = omega arith

    over_256 : (n : ℕ) → n < 65536 → n / 256 < 256
    over_256 n m = omega arith

    third : (n : ℕ) → n < 16777216 → n / 65536 < 256
    third n m = omega arith

pub bytes_written : (set : List ℕ) (i : ℕ) (v : BlockVector) → Bytes set → Holds v → Bytes (with_entry set i v)
unfolding with_entry
bytes_written set i v b h = bytes_splice (8 * i) (entry_bytes v) set (entry_bytes_lem v h) b

-- ---- the bytes of an entry that was read

-- eight values at the front of a list
eight : (l : List ℕ) → 8 ≤ length l
    → get_or l 0 0 ∷ get_or l 1 0 ∷ get_or l 2 0 ∷ get_or l 3 0 ∷ get_or l 4 0 ∷ get_or l 5 0 ∷ get_or l 6 0 ∷ get_or l 7 0 ∷ [] ≡ take 8 l
eight (a ∷ b ∷ c ∷ d ∷ e ∷ f ∷ g ∷ h ∷ l) m = refl
eight [] m = absurd (omega arith)
eight (a ∷ []) m = absurd (omega arith)
eight (a ∷ b ∷ []) m = absurd (omega arith)
eight (a ∷ b ∷ c ∷ []) m = absurd (omega arith)
eight (a ∷ b ∷ c ∷ d ∷ []) m = absurd (omega arith)
eight (a ∷ b ∷ c ∷ d ∷ e ∷ []) m = absurd (omega arith)
eight (a ∷ b ∷ c ∷ d ∷ e ∷ f ∷ []) m = absurd (omega arith)
eight (a ∷ b ∷ c ∷ d ∷ e ∷ f ∷ g ∷ []) m = absurd (omega arith)

low : (a b n : ℕ) → a < 256 → n ≡ a + 256 * b → n % 256 ≡ a
low a b n h e = omega arith

high : (a b n : ℕ) → a < 256 → n ≡ a + 256 * b → n / 256 ≡ b
high a b n h e = omega arith

middle : (a b c : ℕ) → a < 256 → b < 256 → (a + 256 * b + 65536 * c) / 256 % 256 ≡ b
middle a b c h k =
    let q : (a + 256 * b + 65536 * c) / 256 ≡ b + 256 * c = omega arith in
    ap (λ (n : ℕ). n % 256) q ∙ omega arith

module _ (set : List ℕ) (i : ℕ) (b : Bytes set) (room : 8 * i + 8 ≤ length set) where
  word_bits : (k : ℕ) → of_z w16 (i16_at set k) ≡ get_or set k 0 + 256 * get_or set (k + 1) 0
  unfolding i16_at u16_at
  word_bits k = of_z-to_z w16 _ (record { fits = omega (arith, b k, b (k + 1)) })

  -- the 8 bytes that stand there
  entry_read : entry_bytes (entry_at set i) ≡ take 8 (drop (8 * i) set)
  unfolding entry_bytes entry_at u24_at
  entry_read =
      (λ j.
      (low _ _ _ (b _) (word_bits (8 * i)) ∙ at 0 (8 * i) (omega arith)) j ∷
      (high _ _ _ (b _) (word_bits (8 * i)) ∙ at 1 (8 * i + 1) refl) j ∷
      (low _ _ _ (b _) (word_bits (8 * i + 2)) ∙ at 2 (8 * i + 2) refl) j ∷
      (high _ _ _ (b _) (word_bits (8 * i + 2)) ∙ at 3 (8 * i + 2 + 1) (omega arith)) j ∷
      (first (8 * i + 4) ∙ at 4 (8 * i + 4) refl) j ∷
      (middle _ _ (get_or set (8 * i + 4 + 2) 0) (b (8 * i + 4)) (b (8 * i + 4 + 1)) ∙ at 5 (8 * i + 4 + 1) (omega arith)) j ∷
      (last (8 * i + 4) ∙ at 6 (8 * i + 4 + 2) (omega arith)) j ∷
      at 7 (8 * i + 7) refl j ∷
      [])
      ∙ eight (drop (8 * i) set) (simp length-drop (omega arith))
    where
      at : (k m : ℕ) → m ≡ 8 * i + k → get_or set m 0 ≡ get_or (drop (8 * i) set) k 0
      at k m e = ap (λ (n : ℕ). get_or set n 0) e ∙ sym (get_or-drop (8 * i) set k 0)

      first : (k : ℕ) → (get_or set k 0 + 256 * get_or set (k + 1) 0 + 65536 * get_or set (k + 2) 0) % 256 ≡ get_or set k 0
      first k = omega (arith, b k, b (k + 1), b (k + 2))

      last : (k : ℕ) → (get_or set k 0 + 256 * get_or set (k + 1) 0 + 65536 * get_or set (k + 2) 0) / 65536 ≡ get_or set (k + 2) 0
      last k = omega (arith, b k, b (k + 1), b (k + 2))

  -- written again where it was read, nothing changes
  pub entry_same : with_entry set i (entry_at set i) ≡ set
  unfolding with_entry
  entry_same = ap (λ (l : List ℕ). splice (8 * i) l set) entry_read ∙ splice_same (8 * i) 8 set room

-- ---- two writes

-- at one entry the second replaces the first
pub entry_replaced : (set : List ℕ) (i : ℕ) (v w : BlockVector) → 8 * i + 8 ≤ length set → with_entry (with_entry set i v) i w ≡ with_entry set i w
unfolding with_entry
entry_replaced set i v w room =
    splice_again (8 * i) (entry_bytes v) (entry_bytes w) set (length_entry_bytes v ∙ sym (length_entry_bytes w)) (rw (length_entry_bytes v) room)

-- at two entries they may come in either order
pub entries_commute : (set : List ℕ) (i j : ℕ) (v w : BlockVector) → i ≢ j → 8 * i + 8 ≤ length set → 8 * j + 8 ≤ length set
    → with_entry (with_entry set i v) j w ≡ with_entry (with_entry set j w) i v
entries_commute set i j v w ne m n =
    ext_get_or 0 _ _ (length_with_entry _ j w n_i ∙ l_i ∙ sym (length_with_entry _ i v m_j ∙ l_j)) (λ k h. at k (within i k) (within j k))
  where
    l_i : length (with_entry set i v) ≡ length set
    l_i = length_with_entry set i v m

    l_j : length (with_entry set j w) ≡ length set
    l_j = length_with_entry set j w n

    n_i : 8 * j + 8 ≤ length (with_entry set i v)
    n_i = rw l_i n

    m_j : 8 * i + 8 ≤ length (with_entry set j w)
    m_j = rw l_j m

    In : ℕ → ℕ → Type 0
    In i k = (8 * i ≤ k) × (k < 8 * i + 8)

    within : (i k : ℕ) → Dec (In i k)
    within i k = go (dec_lt k (8 * i)) (dec_lt k (8 * i + 8))
      where
        go : Dec (k < 8 * i) → Dec (k < 8 * i + 8) → Dec (In i k)
        go (yes l) m = no (λ p. let a = p.0 in omega arith)
        go (no l) (yes m) = yes (omega arith, m)
        go (no l) (no m) = no (λ p. m p.1)

    at : (k : ℕ) → Dec (In i k) → Dec (In j k) → get_or (with_entry (with_entry set i v) j w) k 0 ≡ get_or (with_entry (with_entry set j w) i v) k 0
    at k (yes p) (yes q) = let a = p.0 in let b = p.1 in let c = q.0 in let d = q.1 in let e : i ≡ j = omega arith in absurd (ne e)
    at k (yes p) (no q) =
        byte_kept _ j w n_i k (λ a b. q (a, b))
        ∙ byte_written set i v m k p.0 p.1
        ∙ sym (byte_written _ i v m_j k p.0 p.1)
    at k (no p) (yes q) =
        byte_written _ j w n_i k q.0 q.1
        ∙ sym (byte_kept _ i v m_j k (λ a b. p (a, b)) ∙ byte_written set j w n k q.0 q.1)
    at k (no p) (no q) =
        byte_kept _ j w n_i k (λ a b. q (a, b))
        ∙ byte_kept set i v m k (λ a b. p (a, b))
        ∙ sym (byte_kept _ i v m_j k (λ a b. p (a, b)) ∙ byte_kept set j w n k (λ a b. q (a, b)))

-- ---- only its 8 bytes count

-- an entry of the n blocks stands in the front of a set
pub entry_front : (s : FieldShape) (set : List ℕ) (i : ℕ) → i < blocks_of s → entry_at (take (set_size s) set) i ≡ entry_at set i
unfolding set_size
entry_front s set i h = entry_of _ _ i i (λ k l. get_or-take (set_size s) set (8 * i + k) 0 (omega arith))

pub entry_over : (v s : List ℕ) (i : ℕ) → 8 * i + 8 ≤ length v → entry_at (over v s) i ≡ entry_at v i
entry_over v s i h = entry_of _ _ i i (λ k l. over_front v s (8 * i + k) 0 (omega arith))

-- ---- surplus stays

written_append : (front surplus : List ℕ) (i : ℕ) (v : BlockVector) → 8 * i + 8 ≤ length front
    → with_entry (front ++ surplus) i v ≡ with_entry front i v ++ surplus
unfolding with_entry splice entry_bytes
written_append front surplus i v h =
    rw (
      take-append-le (8 * i) front surplus (omega arith),
      drop-append-le (8 * i + 8) front surplus h,
      append_assoc (take (8 * i) front),
      append_assoc (entry_bytes v),
    )

pub written_over : (w s : List ℕ) (i : ℕ) (v : BlockVector) → 8 * i + 8 ≤ length w → with_entry (over w s) i v ≡ over (with_entry w i v) s
unfolding over
written_over w s i v h = written_append w (drop (length w) s) i v h ∙ ap (λ (n : ℕ). with_entry w i v ++ drop n s) (sym (length_with_entry w i v h))
