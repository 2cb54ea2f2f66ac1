-- `fast::divide::reciprocal` meets its contract: (2^32 - 1) / d rounded down, and 1, is 2^32 / d rounded up.
use mathlib.Core.Path.{sym}
use native.Mathlib.Nat.{le_refl, lt_of_le_of_lt, add-le-add, div-le_self, add-div_right}
use lib.Dec.{lit<}
use Rattle.fast.specs.Reciprocal.{ceil_of}
use Rattle.fast.proofs.divide.reciprocal.Goals as goal

pub overflow_add-result : goal.overflow_add-result
overflow_add-result c = record { fits = lt_of_le_of_lt (add-le-add (div-le_self _ c.args.divisor) (le_refl _)) (lit< tt) }

pub returns : goal.returns
unfolding ceil_of
returns c = sym (add-div_right 4294967295 c.requires.0)
