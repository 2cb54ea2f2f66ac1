-- Laws of wrap32. Numbers of one residue wrap alike (`wrap_of_res`), so what is to be shown of wrapped numbers is shown of residues.
use Rattle.std.specs.Prelude.{◌≡◌, ℕ, ◌+◌, ◌*◌, ◌/◌, ◌%◌, ◌<◌, ℤ, pos, negsuc, ◌+ℤ◌, ◌-ℤ◌, ◌*ℤ◌, FitsSigned}
use Rattle.std.proofs.Common.{sym, ap, ◌∙◌, mod-eq_of_lt, arith, lit<, to_z, of_z}
use Rattle.std.proofs.Math.Nat.{add-mul-mod_self_left}
use Rattle.std.proofs.Math.IntN.{+ℤ_comm}
use Rattle.std.specs.Int.{w32}
use mir.ValLaws.{to_z-Fits, of_z-to_z}
use Rattle.arith.specs.Floor.Laws.{mod_below}
use Rattle.arith.specs.Integers.{up, dn, sum_z, dif_z, prod_z}
use Rattle.arith.specs.Signed.{back, read}
use Rattle.arith.specs.Wrap.{M, res, wrap32}

-- ---- the residue

pub res_lt : (z : ℤ) → res z < M
unfolding res
res_lt z = mod_below z M (lit< tt)

-- numbers that differ by multiples of M have one residue
cong : (r s k l : ℕ) → r + M * k ≡ s + M * l → r % M ≡ s % M
cong r s k l e = sym (add-mul-mod_self_left r M k) ∙ ap (λ (x : ℕ). x % M) e ∙ add-mul-mod_self_left s M l

-- how many times M is taken from z, and added to it, to come to the residue
abbrev hi : ℤ → ℕ
hi (pos n) = n / M
hi (negsuc n) = 0

abbrev lo : ℤ → ℕ
lo (pos n) = 0
lo (negsuc n) = n / M + 1

res_eq : (z : ℤ) → up z + M * lo z ≡ dn z + res z + M * hi z
unfolding res
res_eq (pos n) = omega arith
res_eq (negsuc n) = omega arith

-- what the residue is: any r that differs from z by multiples of M
res_is : (z : ℤ) (r k l : ℕ) → up z + M * l ≡ dn z + r + M * k → res z ≡ r % M
res_is z r k l e = sym (mod-eq_of_lt (res_lt z)) ∙ cong (res z) r (hi z + l) (k + lo z) (omega (arith, res_eq z))

-- ---- the wrapped number

pub wrap_fits : (z : ℤ) → FitsSigned w32 (wrap32 z)
unfolding wrap32
wrap_fits z = to_z-Fits w32 (res z) (record { fits = res_lt z })

-- an i32's bits are its residue
pub bits_res : (z : ℤ) → FitsSigned w32 z → of_z w32 z ≡ res z
unfolding res
bits_res (pos n) f = let h : n < 2147483648 = f.sfits in omega arith
bits_res (negsuc n) f = let h : n < 2147483648 = f.sfits in omega arith

-- the bits of a signed local
pub res_back : (z : ℤ) (b : ℕ) → FitsSigned w32 z → b ≡ res (to_z w32 (of_z w32 z)) → b ≡ res z
res_back z b f e = e ∙ ap res (back w32 f)

-- an i32 is its own wrap
pub wrap_id : (z : ℤ) → FitsSigned w32 z → wrap32 z ≡ z
unfolding wrap32
wrap_id z f = ap (to_z w32) (sym (bits_res z f)) ∙ back w32 f

pub res_wrap : (z : ℤ) → res (wrap32 z) ≡ res z
unfolding wrap32
res_wrap z = sym (bits_res (wrap32 z) (wrap_fits z)) ∙ of_z-to_z w32 (res z) (record { fits = res_lt z })

pub wrap_of_res : (a b : ℤ) → res a ≡ res b → wrap32 a ≡ wrap32 b
unfolding wrap32
wrap_of_res a b e = ap (to_z w32) e

pub wrap_zero : wrap32 (pos 0) ≡ pos 0
wrap_zero = wrap_id (pos 0) (record { sfits = lit< tt })

-- ---- as code reads it back

-- 32 bits read as signed are the wrapped number with that residue
from_bits_wrap : (z r : ℤ) (u : ℕ) → r ≡ to_z w32 u → u ≡ res z → to_z w32 (of_z w32 r) ≡ wrap32 z
unfolding wrap32
from_bits_wrap z r u e h = read w32 (e ∙ ap (to_z w32) h) (wrap_fits z)

-- an operation worked out of the bits of two signed locals: p and q are theirs, u those of the result
pub bits_wrapped : (op : ℤ → ℤ → ℤ) {a b r : ℤ} {p q u : ℕ} → FitsSigned w32 a → FitsSigned w32 b → p ≡ res (to_z w32 (of_z w32 a)) → q ≡ res (to_z w32 (of_z w32 b))
    → (p ≡ res a → q ≡ res b → u ≡ res (op a b)) → r ≡ to_z w32 u → to_z w32 (of_z w32 r) ≡ wrap32 (op a b)
bits_wrapped op {a} {b} f g e h k o = from_bits_wrap (op a b) _ _ o (k (res_back a _ f e) (res_back b _ g h))

-- an operation modulo 2^32 on two signed locals
pub wrapped_read : (op : ℤ → ℤ → ℤ) {a b r : ℤ} → FitsSigned w32 a → FitsSigned w32 b → r ≡ wrap32 (op (to_z w32 (of_z w32 a)) (to_z w32 (of_z w32 b)))
    → to_z w32 (of_z w32 r) ≡ wrap32 (op a b)
wrapped_read op f g e = read w32 (e ∙ ap wrap32 (λ i. op (back w32 f i) (back w32 g i))) (wrap_fits _)

-- ---- residues of sums, differences and products

pub res_sum : (a b : ℤ) → res (a +ℤ b) ≡ (res a + res b) % M
res_sum a b = res_is (a +ℤ b) (res a + res b) (hi a + hi b) (lo a + lo b) (omega (arith, sum_z a b, res_eq a, res_eq b))

res_dif : (a b : ℤ) → (res (a -ℤ b) + res b) % M ≡ res a
res_dif a b =
    sym (res_is a (res (a -ℤ b) + res b) (hi (a -ℤ b) + hi b) (lo (a -ℤ b) + lo b) (omega (arith, dif_z a b, res_eq (a -ℤ b), res_eq b)))

-- a difference's residue is the one number below M that b's residue added to wraps back to a's
pub res_dif_is : (a b : ℤ) (r : ℕ) → r < M → (r + res b) % M ≡ res a → r ≡ res (a -ℤ b)
res_dif_is a b r h e =
    let k = res_dif a b in
    let l = res_lt (a -ℤ b) in
    let m = res_lt b in
    omega arith

pub res_prod : (a b : ℤ) → res (a *ℤ b) ≡ (res a * res b) % M
res_prod a b =
    res_is (a *ℤ b) (res a * res b) (res a * hi b + res b * hi a + M * (hi a * hi b) + M * (lo a * lo b))
    (res a * lo b + res b * lo a + M * (hi a * lo b) + M * (lo a * hi b))
    (omega (
      arith,
      prod_z a b,
      ap (λ (n : ℕ). n * up b) (res_eq a),
      ap (λ (n : ℕ). n * dn b) (res_eq a),
      ap (λ (n : ℕ). res a * n) (res_eq b),
      ap (λ (n : ℕ). hi a * n) (res_eq b),
      ap (λ (n : ℕ). lo a * n) (res_eq b),
    ))

-- ---- the bits of an i32, by its sign

-- of a natural they are that number
pub bits_natural : (x : ℤ) → FitsSigned w32 x → x ≡ pos (up x) → res x ≡ up x
unfolding res
bits_natural (pos n) f e = let h : n < 2147483648 = f.sfits in omega arith
bits_natural (negsuc n) f e = let z : ⊥ = omega (arith, ap dn e) in absurd z

-- and below 2^31 they are of a natural
pub bits_below : (x : ℤ) → FitsSigned w32 x → res x < 2147483648 → x ≡ pos (res x)
unfolding res
bits_below (pos n) f h = let l : n < 2147483648 = f.sfits in ap pos (omega arith)
bits_below (negsuc n) f h = let l : n < 2147483648 = f.sfits in let z : ⊥ = omega arith in absurd z

-- ---- a wrapped operand may as well not be wrapped

pub wrap_sum : (a b : ℤ) → wrap32 (wrap32 a +ℤ b) ≡ wrap32 (a +ℤ b)
wrap_sum a b = wrap_of_res _ _ (res_sum (wrap32 a) b ∙ ap (λ (x : ℕ). (x + res b) % M) (res_wrap a) ∙ sym (res_sum a b))

pub wrap_sum_right : (a b : ℤ) → wrap32 (a +ℤ wrap32 b) ≡ wrap32 (a +ℤ b)
wrap_sum_right a b = ap wrap32 (+ℤ_comm a (wrap32 b)) ∙ wrap_sum b a ∙ ap wrap32 (+ℤ_comm b a)
