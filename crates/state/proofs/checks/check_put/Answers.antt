-- `state::checks::check_put` meets its contract: a shape that has passed is accepted; a time or a sad that is not is refused by 7.
use Rattle.std.proofs.Common.{sym, rules}
use Rattle.record.specs.Numbers.{first, unless}
use Rattle.state.specs.Numbers.{put_number}
use Rattle.state.proofs.Laws.Ready.{shown_accepted}
use Rattle.state.proofs.checks.check_put.Goals as goal
use Rattle.state.proofs.checks.check_put.Goals.{then-not-is_time-via-then-not-is_time, then-not-is_time-via-else-not-is_time+then-not-is_sad}

pub is_place-requires : goal.is_place-requires
is_place-requires c = shown_accepted c.args.s.shape c.args.s.side c.args.z (sym c.in_ok-check_shown.ensures)

pub returns-then-not-is_time : goal.returns-then-not-is_time
unfolding put_number first unless
returns-then-not-is_time c =
    elim c.then-not-is_time.branch [
      | then-not-is_time-via-then-not-is_time w ↦ search rules
      | then-not-is_time-via-else-not-is_time+then-not-is_sad w ↦ search rules
    ]
