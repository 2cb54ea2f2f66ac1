-- A command: one call of a session with its arguments, decoded from wherever it came; and the machine's call that it asks for.
use Rattle.std.specs.Prelude.{cond, List, ℕ, ◌≤◌, eqb, ℤ, pos}
use Rattle.state.specs.Calls.{entry_given}
use Rattle.machine.specs.Call.{Call}
use Rattle.machine.specs.Call as C
use Rattle.command.specs.declared.Command.{Command}
use Rattle.command.specs.declared.Command.TheVariants.{Take, Put, Undo, Redo, Retime, Pool}
pub mod Laws

-- the kinds: 1 take, 2 put, 3 undo, 4 redo, 5 retime, 6 pool
pub record Known (kind : ℕ) : Type 0 where
  pub least : 1 ≤ kind
  pub most : kind ≤ 6

-- the kind of a command
unfoldable pub kind_of : Command → ℕ
kind_of Take = 1
kind_of (Put side block x y sad luma gesture) = 2
kind_of Undo = 3
kind_of Redo = 4
kind_of (Retime T) = 5
kind_of Pool = 6

-- what there is for each kind; of the known ones the last is pool's
unfoldable pub by_kind : {A : Type 0} → ℕ → A → A → A → A → A → A → A
by_kind kind take put undo redo retime pool =
    cond (eqb kind 1) take (cond (eqb kind 2) put (cond (eqb kind 3) undo (cond (eqb kind 4) redo (cond (eqb kind 5) retime pool))))

-- the kind that a number is read as: a known one itself, any other pool's
unfoldable pub read_kind : ℕ → ℕ
read_kind kind = by_kind kind 1 2 3 4 5 6

-- the call that a command asks for; beside it stand the payload of a take, and the two of a pool
unfoldable pub commanded : Command → List ℕ → List ℕ → Call
commanded Take p q = C.take p
commanded (Put side block x y sad luma gesture) p q = C.put side block (entry_given x y sad luma) gesture
commanded Undo p q = C.undo
commanded Redo p q = C.redo
commanded (Retime T) p q = C.retime T
commanded Pool p q = C.pool p q

-- the command of a kind, a put's and a retime's with 0 for each argument
unfoldable pub plain_command : ℕ → Command
plain_command kind =
    by_kind kind Take (Put 0 0 (pos 0) (pos 0) (pos 0) 0 0) Undo Redo (Retime (pos 0)) Pool

-- a put's command, and a retime's
unfoldable pub put_command : ℕ → ℕ → ℤ → ℤ → ℤ → ℕ → ℕ → Command
put_command side block x y sad luma gesture = Put side block x y sad luma gesture

unfoldable pub retime_command : ℤ → Command
retime_command T = Retime T
