-- One turn of the loop over a list of calls: what holds of the record that was found.
use Rattle.std.specs.Prelude.{◌≡◌, ℕ, ◌+◌, ◌-◌, ◌≤◌, ◌<◌, List, length, take, drop, Some}
use Rattle.std.proofs.Common.{sym, ap, ◌∙◌, subst, arith}
use Rattle.arith.specs.Splice.Laws.{take_rest}
use Rattle.record.specs.Bytes.{byte_at}
use Rattle.state.specs.declared.session.Session.{Session}
use Rattle.state.specs.Buffers.{Buffers}
use Rattle.command.specs.declared.Command.{Command}
use Rattle.command.specs.Commands.{kind_of}
use Rattle.player.specs.Records.{found, record_size, next_size, command_in, first_end}
use Rattle.player.specs.Records.Laws.{found_some, first_within, command_known}
use Rattle.player.specs.Played.Laws.{Playing, some_room, some_size, some_record, end_within}

module _ {s₀ : Session} {l answers₀ : List ℕ} {b₀ : Buffers} {at count size : ℕ} {s : Session} {answers : List ℕ} {b : Buffers}
    (p : Playing s₀ l answers₀ b₀ at count s answers b) (f : Some size ≡ found (next_size (drop at l) (length answers₀ - count))) where
  -- the list from its place on, as the program takes it
  abbrev rest : List ℕ
  rest = take (length l - at) (drop at l)

  pub size_is : size ≡ next_size (drop at l) (length answers₀ - count)
  size_is = (found_some _ size (sym f)).0

  pub size_some : size ≡ 0 → ⊥
  size_some = (found_some _ size (sym f)).1

  pub room_left : count < length answers₀
  room_left = some_room p size_is size_some

  pub ends_within : at + size ≤ length l
  ends_within = end_within p size_is size_some

  pub begins : 0 < record_size (take (length l - at) (drop at l))
  begins = subst (λ (x : List ℕ). 0 < record_size x) (sym (take_rest l at)) (some_record p size_is size_some)

  pub sized : size ≡ record_size (take (length l - at) (drop at l))
  sized = some_size p size_is size_some ∙ ap record_size (sym (take_rest l at))

  -- its command has the record's kind, and its first payload ends within it
  pub kind_is : (c : Command) → c ≡ command_in (take (length l - at) (drop at l)) → kind_of c ≡ byte_at (take (length l - at) (drop at l)) 0
  kind_is c e = ap kind_of e ∙ (command_known rest begins).1

  pub payload_within : (end : ℕ) → end ≡ first_end (take (length l - at) (drop at l)) → end ≤ size
  payload_within end e = omega (arith, e, first_within rest begins, sized)
