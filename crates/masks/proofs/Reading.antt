-- The sum of three signed locals: what code sums are the numbers read back from their bits.
use mathlib.Core.Path.{◌≡◌, ◌∙◌}
use lib.IntN.{ℤ, ◌+ℤ◌}
use mir.Syntax.{w32}
use mir.Val.{SFits, to_z, of_z}
use Rattle.arith.specs.Signed.{back, read}
use Rattle.arith.specs.Wrap.{wrap32}
use Rattle.arith.specs.Wrap.Laws.{wrap_fits}

pub sum3_read : (a b c r : ℤ) → SFits w32 a → SFits w32 b → SFits w32 c
    → r ≡ wrap32 (to_z w32 (of_z w32 a) +ℤ to_z w32 (of_z w32 b) +ℤ to_z w32 (of_z w32 c)) → to_z w32 (of_z w32 r) ≡ wrap32 (a +ℤ b +ℤ c)
sum3_read a b c r f g h e = read w32 (e ∙ simp (back w32 f, back w32 g, back w32 h)) (wrap_fits (a +ℤ b +ℤ c))
