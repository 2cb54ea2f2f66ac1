-- A test of signed locals: what code compares are the numbers read back from their bits.
use Rattle.std.proofs.Common.{◌≡◌, Bool, ℤ, sym, ◌∙◌, ap₂, SFits, to_z, of_z}
use lib.Signed.{lt_z}
use mir.Syntax.{Width}
use Rattle.arith.specs.Signed.{back}

pub lt_read : (w : Width) (a b : ℤ) {t : Bool} → SFits w a → SFits w b → lt_z (to_z w (of_z w a)) (to_z w (of_z w b)) ≡ t → lt_z a b ≡ t
lt_read w a b f g e = sym (ap₂ lt_z (back w f) (back w g)) ∙ e
