-- `maps::planes::pack` meets its contract: refused by its number, or the planes of the chosen set.
use Rattle.std.proofs.Common.{◌≡◌, ℕ, List, length, refl, sym, ap, ◌∙◌, arith}
use Rattle.record.specs.Shape.{plane_size}
use Rattle.record.specs.Entries.{set_of, side_set}
use Rattle.record.specs.Numbers.Laws.{call_refused, call_accepted}
use Rattle.record.specs.Refusals.Laws.{code_positive, handed_on}
use Rattle.maps.specs.Ready.{sided_ready}
use Rattle.maps.specs.Planes.{Planes, planes, planes_made, pack_number, packed, pack_of}
use Rattle.maps.specs.Planes.Laws.{planes_front}
use Rattle.maps.proofs.planes.pack.Goals as goal

pub returns-in_err-check_pack : goal.returns-in_err-check_pack
unfolding pack_of
returns-in_err-check_pack c =
    let a = c.args in
    let r = c.in_err-check_pack.field-0.0 in
    let n = handed_on _ r c.from_residual.ensures.1 in
    call_refused (λ (k : ℕ). packed k a.backward.now a.forward.now a.xs.now a.ys.now) _ _ _ (n ∙ c.in_err-check_pack.ensures)
    (λ q. code_positive r (sym n ∙ q))

pub set-set-requires : goal.set-set-requires
unfolding pack_number
set-set-requires c =
    let a = c.args in
    let r = (sided_ready a.shape _ _ (plane_size a.shape) (length a.xs.now) (plane_size a.shape) (length a.ys.now) a.side (sym c.in_ok-check_pack.ensures)).sets in
    (r.accepted, omega arith, omega arith)

pub fill_planes-requires : goal.fill_planes-requires
unfolding pack_number
fill_planes-requires c =
    let a = c.args in
    let r = sided_ready a.shape _ _ (plane_size a.shape) (length a.xs.now) (plane_size a.shape) (length a.ys.now) a.side (sym c.in_ok-check_pack.ensures) in
    let l = c.set-set.ensures.1 in
    record { accepted = r.sets.accepted; set_room = omega arith; x_room = r.one_room; y_room = r.other_room }

pub returns : goal.returns
unfolding pack_of side_set pack_number
returns c =
    let a = c.args in
    let r = sided_ready a.shape _ _ (plane_size a.shape) (length a.xs.now) (plane_size a.shape) (length a.ys.now) a.side (sym c.in_ok-check_pack.ensures) in
    let p = planes a.xs.now a.ys.now in
    let set : c.set-set.result.now ≡ side_set a.shape a.side a.backward.now a.forward.now = c.set-set.ensures.0 in
    ap (λ (l : Planes). packed 0 a.backward.now a.forward.now l.xs l.ys)
    (c.fill_planes.ensures
    ∙ ap (λ (l : List ℕ). planes_made a.shape l p) set
    ∙ planes_front a.shape r.sets.accepted (set_of a.side a.backward.now a.forward.now) p)
    ∙ call_accepted (λ (k : ℕ). packed k a.backward.now a.forward.now a.xs.now a.ys.now) _ _ _ c.in_ok-check_pack.ensures refl
