-- `player::play` meets its contract: a record at each turn, until none begins or the answers are full.
use Rattle.std.specs.Prelude.{ℕ, min}
use Rattle.std.proofs.Common.{sym, ap, ◌∙◌, arith}
use Rattle.player.specs.Records.Laws.{found_none}
use Rattle.player.specs.Played.Laws.{start, turned, finish}
use Rattle.state.proofs.Ended.{same_at_first, same_again}
use Rattle.player.proofs.Turn.{size_is, size_some, room_left, ends_within, begins, sized, kind_is, payload_within}
use Rattle.player.proofs.play.Goals as goal

pub loop-size-init : goal.loop-size-init
loop-size-init c = record { playing = start _ _ _ _; same_references = same_at_first }

pub decoded-command-requires : goal.decoded-command-requires
decoded-command-requires c = begins c.loop-size.invariant.playing c.in-Some.ensures

pub first_end-first-requires-clause-begins : goal.first_end-first-requires-clause-begins
first_end-first-requires-clause-begins c = begins c.loop-size.invariant.playing c.in-Some.ensures

pub first_end-first-requires-clause-size : goal.first_end-first-requires-clause-size
first_end-first-requires-clause-size c = sized c.loop-size.invariant.playing c.in-Some.ensures

pub first_end-first-requires-clause-kind : goal.first_end-first-requires-clause-kind
first_end-first-requires-clause-kind c =
    kind_is c.loop-size.invariant.playing c.in-Some.ensures _ c.decoded-command.ensures

pub overflow_add-start : goal.overflow_add-start
overflow_add-start c =
    let p = c.loop-size.invariant.playing in
    record { fits = omega (arith, ends_within p c.in-Some.ensures, payload_within p c.in-Some.ensures _ c.first_end-first.ensures, c.min.ensures, c.well_formed) }

pub overflow_add-middle : goal.overflow_add-middle
overflow_add-middle c =
    let p = c.loop-size.invariant.playing in
    record { fits = omega (arith, ends_within p c.in-Some.ensures, payload_within p c.in-Some.ensures _ c.first_end-first.ensures, c.well_formed) }

pub overflow_add-end : goal.overflow_add-end
overflow_add-end c = record { fits = omega (arith, ends_within c.loop-size.invariant.playing c.in-Some.ensures, c.well_formed) }

pub slice_bounds-payload-end : goal.slice_bounds-payload-end
slice_bounds-payload-end c =
    let p = c.loop-size.invariant.playing in
    omega (arith, ends_within p c.in-Some.ensures, payload_within p c.in-Some.ensures _ c.first_end-first.ensures)

pub slice_bounds-second-count : goal.slice_bounds-second-count
slice_bounds-second-count c =
    omega (arith, payload_within c.loop-size.invariant.playing c.in-Some.ensures _ c.first_end-first.ensures)

pub slice_bounds-second-start : goal.slice_bounds-second-start
slice_bounds-second-start c =
    omega (arith, payload_within c.loop-size.invariant.playing c.in-Some.ensures _ c.first_end-first.ensures)

pub slice_bounds-second-end : goal.slice_bounds-second-end
slice_bounds-second-end c = ends_within c.loop-size.invariant.playing c.in-Some.ensures

pub bounds-answers-count : goal.bounds-answers-count
bounds-answers-count c =
    omega (arith, room_left c.loop-size.invariant.playing c.in-Some.ensures, c.loop-size.invariant.playing.room)

pub loop-size-smaller : goal.loop-size-smaller
loop-size-smaller c = omega (arith, room_left c.loop-size.invariant.playing c.in-Some.ensures)

pub loop-size-preserved : goal.loop-size-preserved
loop-size-preserved c =
    let p = c.loop-size.invariant.playing in
    let f = c.in-Some.ensures in
    let called = c.call-answer.ensures in
    record {
      playing =
          turned p (size_is p f) (size_some p f) _ c.decoded-command.ensures _ _ c.first_end-first.ensures
          (c.min.ensures ∙ ap (λ (n : ℕ). min n c.first_end-first.result) c.head_size.ensures) c.call-answer.result.number c.call-answer.result.session _ called.made;
      same_references = same_again called.same_references c.loop-size.invariant.same_references;
    }

pub returns-clause-made : goal.returns-clause-made
returns-clause-made c = finish c.loop-size.invariant.playing (found_none _ (sym c.in_default.ensures))
