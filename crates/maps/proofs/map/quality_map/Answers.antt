-- `maps::map::quality_map` meets its contract: refused by its number, or the map of the chosen set.
use Rattle.std.proofs.Common.{ℕ, List, length, refl, sym, ap, ◌∙◌, arith}
use Rattle.record.specs.Shape.{blocks_of}
use Rattle.record.specs.Entries.{set_of, side_set}
use Rattle.record.specs.Numbers.Laws.{call_refused, call_accepted}
use Rattle.record.specs.Refusals.Laws.{code_positive, handed_on}
use Rattle.maps.specs.Ready.{sided_ready}
use Rattle.maps.specs.Map.{map_made, map_number, mapped, quality_map_of}
use Rattle.maps.specs.Map.Laws.{map_front}
use Rattle.maps.proofs.map.quality_map.Goals as goal

pub returns-in_err-check_map : goal.returns-in_err-check_map
unfolding quality_map_of
returns-in_err-check_map c =
    let a = c.args in
    let r = c.in_err-check_map.field-0.0 in
    let n = handed_on _ r c.from_residual.ensures.1 in
    call_refused (λ (k : ℕ). mapped k a.backward.now a.forward.now a.averages.now a.map.now) _ _ _ (n ∙ c.in_err-check_map.ensures)
    (λ q. code_positive r (sym n ∙ q))

pub set-set-requires : goal.set-set-requires
unfolding map_number
set-set-requires c =
    let a = c.args in
    let r = (sided_ready a.shape _ _ (blocks_of a.shape) (length a.averages.now) (blocks_of a.shape) (length a.map.now) a.side (sym c.in_ok-check_map.ensures)).sets in
    (r.accepted, r.backward_room, r.forward_room)

pub fill_map-requires : goal.fill_map-requires
unfolding map_number
fill_map-requires c =
    let a = c.args in
    let r = sided_ready a.shape _ _ (blocks_of a.shape) (length a.averages.now) (blocks_of a.shape) (length a.map.now) a.side (sym c.in_ok-check_map.ensures) in
    let l = c.set-set.ensures.1 in
    record { accepted = r.sets.accepted; set_room = omega arith; averages_room = r.one_room; map_room = r.other_room }

pub returns : goal.returns
unfolding quality_map_of side_set
returns c =
    let a = c.args in
    ap (mapped 0 a.backward.now a.forward.now a.averages.now)
    (c.fill_map.ensures
    ∙ ap (λ (l : List ℕ). map_made a.shape a.limits l a.averages.now a.map.now) c.set-set.ensures.0
    ∙ map_front a.shape a.limits (set_of a.side a.backward.now a.forward.now) a.averages.now a.map.now)
    ∙ call_accepted (λ (k : ℕ). mapped k a.backward.now a.forward.now a.averages.now a.map.now) _ _ _ c.in_ok-check_map.ensures refl
