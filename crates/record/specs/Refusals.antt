-- The refusals by their numbers (paper 01, 'Refused calls').
use Rattle.std.specs.Prelude.{ℕ, Result, Ok, Err}
use Rattle.record.specs.declared.refusal.Refusal.{Refusal}
use Rattle.record.specs.declared.refusal.Refusal.TheVariants.{Record, Shape, Room, Head, BackwardHalf, ForwardHalf, Range, Place, NothingPast, NothingFuture, Slots, Counts}
pub mod Laws

-- the number of a refusal
abbrev pub code : Refusal → ℕ
code Record = 1
code Shape = 2
code Room = 3
code Head = 4
code BackwardHalf = 5
code ForwardHalf = 6
code Range = 7
code Place = 8
code NothingPast = 9
code NothingFuture = 10
code Slots = 11
code Counts = 12

-- the number of an outcome: 0 for accepted
abbrev pub number_of : {A : Type 0} → Result A Refusal → ℕ
number_of (Ok a) = 0
number_of (Err refusal) = code refusal
