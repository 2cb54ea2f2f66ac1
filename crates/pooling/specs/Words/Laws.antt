-- Laws of an entry as one number: its bytes, its halves, its sad.
use Rattle.std.specs.Prelude.{◌≡◌, List, [], ◌∷◌, ◌++◌, ℕ, ◌+◌, ◌*◌, ◌%◌, ◌<◌}
use Rattle.std.proofs.Math.Path.{ap}
use Rattle.std.proofs.Common.{arith}
use Rattle.arith.specs.Tabulate.{tab}
use Rattle.record.specs.Bytes.{byte_at, u32_bytes, pair_bytes}
use Rattle.pooling.specs.Words.{bytes_from, vector_of, extra_of, sad_of}

-- four bytes of a list, one by one
pub four_from : (l : List ℕ) (at : ℕ) → byte_at l at ∷ byte_at l (at + 1) ∷ byte_at l (at + 2) ∷ byte_at l (at + 3) ∷ [] ≡ bytes_from l at 4
unfolding bytes_from tab
four_from l at = let e : at ≡ at + 0 = omega arith in λ i. byte_at l (e i) ∷ byte_at l (at + 1) ∷ byte_at l (at + 2) ∷ byte_at l (at + 3) ∷ []

-- and eight of them
pub eight_from : (l : List ℕ) (at : ℕ) → bytes_from l at 4 ++ bytes_from l (at + 4) 4 ≡ bytes_from l at 8
unfolding bytes_from tab
eight_from l at =
    let e₄ : at + 4 + 0 ≡ at + 4 = omega arith in
    let e₅ : at + 4 + 1 ≡ at + 5 = omega arith in
    let e₆ : at + 4 + 2 ≡ at + 6 = omega arith in
    let e₇ : at + 4 + 3 ≡ at + 7 = omega arith in
    λ i. byte_at l (at + 0) ∷ byte_at l (at + 1) ∷ byte_at l (at + 2) ∷ byte_at l (at + 3) ∷ byte_at l (e₄ i) ∷ byte_at l (e₅ i) ∷ byte_at l (e₆ i) ∷ byte_at l (e₇ i) ∷ []

-- ---- an entry's two halves

module _ (vector extra : ℕ) (h : vector < 4294967296) where
  vector_again : vector_of (vector + 4294967296 * extra) ≡ vector
  vector_again = omega arith

  extra_again : extra_of (vector + 4294967296 * extra) ≡ extra
  extra_again = omega arith

  pub pair_again : pair_bytes (vector_of (vector + 4294967296 * extra)) (extra_of (vector + 4294967296 * extra)) ≡ u32_bytes vector ++ u32_bytes extra
  unfolding pair_bytes
  pair_again = λ i. u32_bytes (vector_again i) ++ u32_bytes (extra_again i)

  pub sad_again : sad_of (vector + 4294967296 * extra) ≡ extra % 16777216
  unfolding sad_of
  sad_again = ap (λ (n : ℕ). n % 16777216) extra_again
