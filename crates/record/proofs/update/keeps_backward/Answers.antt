-- `record::update::keeps_backward` meets its contract: 6 is the forward half's number alone.
use denote.Enum.Bare.{sameb}
use mathlib.Core.Path.{◌≡◌, refl, sym, ◌∙◌}
use mathlib.Core.Bool.{◌||◌}
use lib.Dec.{eqb}
use Rattle.record.specs.contracts.refusal.Refusal.{the_type}
use Rattle.record.specs.declared.refusal.Refusal.{Refusal}
use Rattle.record.specs.declared.refusal.Refusal.TheVariants.{Record, Shape, Room, Head, BackwardHalf, ForwardHalf, Range, Place, NothingPast, NothingFuture, Slots, Counts}
use Rattle.record.specs.Refusals.{code, number_of}
use Rattle.record.proofs.update.keeps_backward.Goals as goal

is_six : (r : Refusal) → sameb the_type r ForwardHalf ≡ (eqb (code r) 0 || eqb (code r) 6)
is_six Record = refl
is_six Shape = refl
is_six Room = refl
is_six Head = refl
is_six BackwardHalf = refl
is_six ForwardHalf = refl
is_six Range = refl
is_six Place = refl
is_six NothingPast = refl
is_six NothingFuture = refl
is_six Slots = refl
is_six Counts = refl

pub returns-in-Err : goal.returns-in-Err
returns-in-Err c = c.eq.ensures ∙ is_six c.in-Err.refusal ∙ sym (λ i. eqb (number_of (c.in-Err.is i)) 0 || eqb (number_of (c.in-Err.is i)) 6)
