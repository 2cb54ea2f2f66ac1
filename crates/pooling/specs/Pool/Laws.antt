-- Laws of pooled payloads: which entry is kept, the bytes of a kept entry, and what a pooled set is in front of its surplus.
use Rattle.std.specs.Prelude.{◌≡◌, refl, Bool, cond, ℕ, ◌+◌, ◌*◌, ◌/◌, ◌≤◌, ◌<◌, drop}
use Rattle.std.proofs.Math.Path.{sym, ap}
use Rattle.std.proofs.Common.{◌∙◌}
use Rattle.std.proofs.Math.Bool.{true, false}
use mathlib.Core.List.{List}
use native.Mathlib.Omega.{arith}
use Rattle.std.proofs.Math.Dec.{leb}
use Rattle.std.proofs.Math.ListN.{length}
use Rattle.arith.specs.Booleans.{cond_elim, cond_true, cond_false}
use Rattle.arith.specs.Integers.{up, dn, le_z_is_true}
use Rattle.arith.specs.Splice.{over}
use Rattle.arith.specs.Splice.Laws.{over_front_part, length_over}
use Rattle.arith.specs.Tabulate.{tab}
use Rattle.arith.specs.Tabulate.Laws.{length_tab, get_d_tab, tab_same}
use Rattle.record.specs.declared.shape.FieldShape.{FieldShape}
use Rattle.record.specs.Bytes.{Bytes, byte_at, u24_at, pair_bytes}
use Rattle.record.specs.Bytes.Laws.{bytes_drop, bytes_over, bytes_tab}
use Rattle.record.specs.Entries.{entry_at}
use Rattle.record.specs.Entries.Laws.{entry_of}
use Rattle.record.specs.Shape.{set_size}
use Rattle.pooling.specs.Pool.{first_kept, kept_byte, pooled}
use Rattle.pooling.specs.Words.{bytes_from, vector_of, extra_of, sad_of, smaller_of}

-- ---- which entry is kept

module _ (p q : List ℕ) where
  -- at a tie the first's
  pub tie_first : (i : ℕ) → (entry_at p i).sad ≡ (entry_at q i).sad → first_kept p q i ≡ true
  unfolding first_kept
  tie_first i e = le_z_is_true (entry_at p i).sad (entry_at q i).sad (omega (arith, ap up e, ap dn e))

  -- a byte of block i
  kept_of_lem : (i j : ℕ) → j < 8 → kept_byte p q (8 * i + j) ≡ byte_at (cond (first_kept p q i) p q) (8 * i + j)
  unfolding kept_byte
  kept_of_lem i j h = let e : (8 * i + j) / 8 ≡ i = omega arith in ap (λ (n : ℕ). byte_at (cond (first_kept p q n) p q) (8 * i + j)) e

  -- entry i of n kept ones is the one payload's or the other's, whole
  pub pooled_entry : (n i : ℕ) → i < n → entry_at (tab (kept_byte p q) (8 * n)) i ≡ cond (first_kept p q i) (entry_at p i) (entry_at q i)
  pooled_entry n i h =
      entry_of _ _ i i (λ k l. get_d_tab (kept_byte p q) (8 * n) (8 * i + k) 0 (omega arith) ∙ kept_of_lem i k l) ∙ choose (first_kept p q i)
    where
      choose : (t : Bool) → entry_at (cond t p q) i ≡ cond t (entry_at p i) (entry_at q i)
      choose true = refl
      choose false = refl

  -- ---- as the code keeps it, word by word

  module _ (i a b : ℕ) (pa : pair_bytes (vector_of a) (extra_of a) ≡ bytes_from p (8 * i) 8) (sa : sad_of a ≡ u24_at p (8 * i + 4))
      (pb : pair_bytes (vector_of b) (extra_of b) ≡ bytes_from q (8 * i) 8) (sb : sad_of b ≡ u24_at q (8 * i + 4)) where
    smaller_first : leb (sad_of a) (sad_of b) ≡ first_kept p q i
    unfolding first_kept entry_at
    smaller_first = λ t. leb (sa t) (sb t)

    pub kept_word : pair_bytes (vector_of (smaller_of a b)) (extra_of (smaller_of a b)) ≡ tab (λ (j : ℕ). kept_byte p q (8 * i + j)) 8
    unfolding smaller_of bytes_from
    kept_word =
        go (leb (sad_of a) (sad_of b))
        ∙ ap (λ (t : Bool). bytes_from (cond t p q) (8 * i) 8) smaller_first
        ∙ tab_same _ _ 8 (λ j h. sym (kept_of_lem i j h))
      where
        go : (t : Bool) → pair_bytes (vector_of (cond t a b)) (extra_of (cond t a b)) ≡ bytes_from (cond t p q) (8 * i) 8
        go true = pa
        go false = pb

-- ---- a pooled set

module _ (s : FieldShape) (flagged : Bool) (at : ℕ) (p q : List ℕ) where
  abbrev entries : List ℕ
  entries = tab (kept_byte (drop at p) (drop at q)) (set_size s)

  pub flagged_new : (set : List ℕ) → flagged ≡ true → pooled s flagged at p q set ≡ over entries set
  unfolding pooled
  flagged_new set e = cond_true flagged _ _ e

  pub unflagged_stays : (set : List ℕ) → flagged ≡ false → pooled s flagged at p q set ≡ set
  unfolding pooled
  unflagged_stays set e = cond_false flagged _ _ e

  pub length_pooled : (set : List ℕ) → set_size s ≤ length set → length (pooled s flagged at p q set) ≡ length set
  unfolding pooled
  length_pooled set h =
      cond_elim (λ (l : List ℕ). length l ≡ length set) flagged (over entries set) set
      (λ e. length_over entries set (rw (length_tab (kept_byte (drop at p) (drop at q)) (set_size s)) h)) (λ e. refl)

  -- in front of its surplus
  pub pooled_over : (set rest : List ℕ) → length set ≡ set_size s → pooled s flagged at p q (over set rest) ≡ over (pooled s flagged at p q set) rest
  unfolding pooled
  pooled_over set rest e = go flagged
    where
      n : length entries ≡ length set
      n = length_tab (kept_byte (drop at p) (drop at q)) (set_size s) ∙ sym e

      go : (t : Bool) → cond t (over entries (over set rest)) (over set rest) ≡ over (cond t (over entries set) set) rest
      go true = over_front_part entries set rest n
      go false = refl

  pub bytes_pooled : (set : List ℕ) → Bytes p → Bytes q → Bytes set → Bytes (pooled s flagged at p q set)
  unfolding pooled kept_byte
  bytes_pooled set hp hq h =
      cond_elim Bytes flagged (over entries set) set (λ e. bytes_over entries set (bytes_tab (kept_byte (drop at p) (drop at q)) (set_size s) one) h) (λ e. h)
    where
      one : (k : ℕ) → byte_at (cond (first_kept (drop at p) (drop at q) (k / 8)) (drop at p) (drop at q)) k < 256
      one k = cond_elim (λ (l : List ℕ). byte_at l k < 256) (first_kept (drop at p) (drop at q) (k / 8)) (drop at p) (drop at q) (λ e. bytes_drop at p hp k) (λ e. bytes_drop at q hq k)
