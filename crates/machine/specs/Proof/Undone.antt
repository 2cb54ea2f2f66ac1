-- Steps that fit the sets (demand 3, the undos and redos after a list): taken back one after the other, each finds its new entry where it
-- was put; done again, each finds its old one.
use Rattle.std.specs.Prelude.{◌≡◌, List, [], ◌∷◌, reverse}
use Rattle.machine.specs.Machine.{Step, Sets, Machine, entry_of, stored}

-- the sets before and after a step
unfoldable pub earlier : Step → Sets → Sets
earlier p m = stored p.side p.block p.old m

unfoldable pub later : Step → Sets → Sets
later p m = stored p.side p.block p.new m

-- of steps in the order in which they are taken back
unfoldable pub Behind : List Step → Sets → Type 0
Behind [] m = Unit {0}
Behind (p ∷ ps) m = (entry_of p.side p.block m ≡ p.new) × Behind ps (earlier p m)

-- of steps in the order in which they are done again
unfoldable pub Ahead : List Step → Sets → Type 0
Ahead [] m = Unit {0}
Ahead (p ∷ ps) m = (entry_of p.side p.block m ≡ p.old) × Ahead ps (later p m)

-- what holds of every state that a list of calls leads to
pub record Linked (m : Machine) : Type 0 where
  pub behind : Behind (reverse m.past) m.sets
  pub ahead : Ahead m.future m.sets
