-- The calls of a list (demand 3: take, put, undo, redo and retime, and pool of paper 02's request 3, refused ones included), with arguments of any value of their types.
use Rattle.std.specs.Prelude.{◌≡◌, ◌⊎◌, Bool, true, false, ◌||◌, List, [], ◌∷◌, ℕ, ◌<◌, eqb, ℤ}
use Rattle.std.specs.Int.{w32}
use Rattle.std.proofs.Common.{SFits}
use Rattle.record.specs.declared.entry.BlockVector.{BlockVector}
use Rattle.record.specs.Bytes.{Bytes}
use Rattle.record.specs.Entries.{EntryTyped}

-- take: a payload; pool: two; put: side, block, entry and gesture; retime: a time
pub data Call : Type 0 where
  take : List ℕ → Call
  put : ℕ → ℕ → BlockVector → ℕ → Call
  undo redo : Call
  retime : ℤ → Call
  pool : List ℕ → List ℕ → Call

-- what the arguments' types hold, and nothing more
pub record PutTyped (side block : ℕ) (v : BlockVector) (gesture : ℕ) : Type 0 where
  pub side_fits : side < 4294967296
  pub block_fits : block < 4294967296
  pub entry : EntryTyped v
  pub gesture_fits : gesture < 4294967296

unfoldable pub Typed : Call → Type 0
Typed (take payload) = Bytes payload
Typed (put side block entry gesture) = PutTyped side block entry gesture
Typed undo = Unit {0}
Typed redo = Unit {0}
Typed (retime T) = SFits w32 T
Typed (pool p q) = Bytes p × Bytes q

-- what holds of each call of a list
unfoldable pub AllCalls : (Call → Type 0) → List Call → Type 0
AllCalls P [] = Unit {0}
AllCalls P (x ∷ xs) = P x × AllCalls P xs

abbrev pub AllTyped : List Call → Type 0
AllTyped xs = AllCalls Typed xs

-- the numbers that a call can be refused by in a list that follows an accepted open
unfoldable pub numbers_of : Call → List ℕ
numbers_of (take payload) = 4 ∷ 5 ∷ 6 ∷ []
numbers_of (put side block entry gesture) = 8 ∷ 7 ∷ []
numbers_of undo = 9 ∷ []
numbers_of redo = 10 ∷ []
numbers_of (retime T) = 7 ∷ []
numbers_of (pool p q) = 4 ∷ 5 ∷ 6 ∷ []

unfoldable pub is_one_of : ℕ → List ℕ → Bool
is_one_of n [] = false
is_one_of n (k ∷ ks) = eqb n k || is_one_of n ks

-- such a call can be refused by this number
unfoldable pub arises : Call → ℕ → Bool
arises x n = is_one_of n (numbers_of x)

-- an answer: 0, or a number of its call
abbrev pub Answers : Call → ℕ → Type 0
Answers x n = (n ≡ 0) ⊎ (arises x n ≡ true)

-- an answer for each call of a list
unfoldable pub Answered : List Call → List ℕ → Type 0
Answered [] [] = Unit {0}
Answered [] (n ∷ ns) = ⊥
Answered (x ∷ xs) [] = ⊥
Answered (x ∷ xs) (n ∷ ns) = Answers x n × Answered xs ns
