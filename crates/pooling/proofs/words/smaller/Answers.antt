-- `pooling::words::smaller` meets its contract: the first where its sad is not greater.
use Rattle.std.proofs.Common.{◌≡◌, Bool, cond, ℕ, ◌≤◌, ◌<◌, sym, ap, arith, le-leb}
use Rattle.std.proofs.lemmas.Bool.{lt-leb}
use Rattle.pooling.specs.Words.{sad_of, smaller_of}
use Rattle.pooling.proofs.words.smaller.Goals as goal

module _ (a b : ℕ) where
  kept_first : sad_of a ≤ sad_of b → a ≡ smaller_of a b
  unfolding smaller_of
  kept_first h = ap (λ (t : Bool). cond t a b) (sym (le-leb (sad_of a) (sad_of b) h))

  kept_second : sad_of b < sad_of a → b ≡ smaller_of a b
  unfolding smaller_of
  kept_second h = ap (λ (t : Bool). cond t a b) (sym (lt-leb (sad_of a) (sad_of b) h))

pub returns-then-sad_of : goal.returns-then-sad_of
returns-then-sad_of c = kept_first _ _ (omega (arith, c.sad_of.ensures, c.sad_of-2.ensures, c.if-sad_of.true))

pub returns-else-sad_of : goal.returns-else-sad_of
returns-else-sad_of c = kept_second _ _ (omega (arith, c.sad_of.ensures, c.sad_of-2.ensures, c.if-sad_of.false))
