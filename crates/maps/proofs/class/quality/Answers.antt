-- `maps::class::quality` meets its contract: refused by its number, or the class of the chosen set's counts.
use Rattle.std.proofs.Common.{ℕ, List, ℤ, refl, sym, ap, ◌∙◌, arith, rules, w32}
use Rattle.arith.specs.Signed.{back}
use Rattle.record.specs.Entries.{set_of, side_set}
use Rattle.record.specs.Numbers.Laws.{call_refused, call_accepted}
use Rattle.record.specs.Refusals.{code}
use Rattle.record.specs.Refusals.Laws.{code_positive}
use Rattle.maps.specs.Class.{counts_of, class_of, Graded, graded, refused, graded_of, classed, quality_of}
use Rattle.maps.specs.Class.Laws.{quality_ready, handed_class, counts_front, counts_few}
use Rattle.maps.proofs.class.quality.Goals as goal

pub returns-in_err-check_quality : goal.returns-in_err-check_quality
unfolding quality_of
returns-in_err-check_quality c =
    let a = c.args in
    let r = c.in_err-check_quality.field-0.0 in
    ap (λ (g : Graded). classed g a.backward.now a.forward.now a.averages.now) (handed_class _ r c.from_residual.ensures.1)
    ∙ call_refused (λ (k : ℕ). classed (refused k) a.backward.now a.forward.now a.averages.now) _ (code r) _ c.in_err-check_quality.ensures (code_positive r)

pub set-set-requires : goal.set-set-requires
set-set-requires c =
    let r = (quality_ready _ c.args.side _ _ _ (sym c.in_ok-check_quality.ensures)).sets in
    (r.accepted, r.backward_room, r.forward_room)

pub count_blocks-counts-requires : goal.count_blocks-counts-requires
count_blocks-counts-requires c =
    let r = quality_ready _ c.args.side _ _ _ (sym c.in_ok-check_quality.ensures) in
    let l = c.set-set.ensures.1 in
    record { accepted = r.sets.accepted; set_room = omega arith; averages_room = r.averages_room }

pub class_of-requires : goal.class_of-requires
class_of-requires c =
    let r = quality_ready _ c.args.side _ _ _ (sym c.in_ok-check_quality.ensures) in
    rw c.count_blocks-counts.ensures (counts_few _ _ _ _ r.sets.accepted)

pub returns : goal.returns
unfolding quality_of side_set
returns c =
    let a = c.args in
    ap (λ (k : ℕ). classed (graded k) a.backward.now a.forward.now a.averages.now)
    (c.class_of.ensures
    ∙ ap (λ (z : ℤ). class_of z c.count_blocks-counts.result) (back w32 {z = a.limits.blocks} (search rules))
    ∙ ap (class_of a.limits.blocks)
    (c.count_blocks-counts.ensures
    ∙ ap (λ (l : List ℕ). counts_of a.shape a.limits l a.averages.now) c.set-set.ensures.0
    ∙ counts_front a.shape a.limits (set_of a.side a.backward.now a.forward.now) a.averages.now))
    ∙ call_accepted (λ (k : ℕ). classed (refused k) a.backward.now a.forward.now a.averages.now) _ _ _ c.in_ok-check_quality.ensures refl
