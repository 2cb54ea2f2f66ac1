-- Demand 3 of code, for every list of calls: `player::open_and_play` is by its contract `begun_of` of the bytes that it is lent, and here stands what that
-- is where they are the bytes of a list.
use Rattle.std.specs.Prelude.{◌≡◌, List, ◌++◌, ℕ, ◌+◌, ◌≤◌, ℤ, length, take, replicate}
use Rattle.arith.specs.Splice.{over}
use Rattle.record.specs.Bytes.{Bytes}
use Rattle.state.specs.Buffers.{sizes_of}
use Rattle.state.specs.Numbers.{open_number}
use Rattle.machine.specs.Call.{Call, AllTyped}
use Rattle.machine.specs.Layout.{Opening, depth_for}
use Rattle.machine.specs.Machine.{opened, run}
use Rattle.machine.specs.Whole.{undos_of, undos_redos, machine_after}
use Rattle.player.specs.Played.{Begun, laid_after, begun_of}
use Rattle.player.specs.Written.{bytes_of, AllWritable}

-- an open, and then the bytes of a list
unfoldable pub begun_for : Opening → ℤ → List ℕ → List Call → Begun
begun_for o T answers xs = begun_of o.shape o.side o.limits T (bytes_of xs) answers o.buffers

-- the bytes of a list are bytes, and are played as that list: the machine's answers, and the machine laid out
pub record Plays (o : Opening) (T : ℤ) (answers : List ℕ) (xs : List Call) : Type 0 where
  pub bytes : Bytes (bytes_of xs)
  pub begun : begun_for o T answers xs ≡ laid_after o (length xs) answers (run (depth_for o) o.shape xs (opened o.shape T))

-- so it is with every list, after an accepted open and with room for the answers
unfoldable pub PlaysEvery : Type 0
PlaysEvery =
    (o : Opening) (T : ℤ) (answers : List ℕ) (xs : List Call) → open_number o.shape o.side T (sizes_of o.buffers) ≡ 0 → AllTyped xs → AllWritable xs
    → length xs ≤ length answers → Plays o T answers xs

-- k undos and k redos behind a list: what it leaves with them (all) has 2k answers more than what it leaves without (alone), each of them 0, and the same
-- session and buffers
pub record GaveBack (k : ℕ) (answers : List ℕ) (alone all : Begun) : Type 0 where
  pub number : all.number ≡ 0
  pub count : all.after.count ≡ alone.after.count + (k + k)
  pub numbers : all.after.answers ≡ over (take alone.after.count alone.after.answers ++ replicate (k + k) 0) answers
  pub session : all.after.session ≡ alone.after.session
  pub buffers : all.after.buffers ≡ alone.after.buffers

-- demand 3's last sentence: so it is with every list, where k is how many past runs the machine has after it
unfoldable pub GivesBackEvery : Type 0
GivesBackEvery =
    (o : Opening) (T : ℤ) (answers : List ℕ) (xs : List Call) → open_number o.shape o.side T (sizes_of o.buffers) ≡ 0 → AllTyped xs → AllWritable xs
    → let k : ℕ = undos_of (machine_after o T xs) in
    let ys : List Call = xs ++ undos_redos k in
    length xs + (k + k) ≤ length answers → Bytes (bytes_of ys) × GaveBack k answers (begun_for o T answers xs) (begun_for o T answers ys)
