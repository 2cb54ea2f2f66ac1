-- `history::append` meets its contract: with room the step behind the others, else all moved down first.
use Rattle.std.proofs.Common.{◌≡◌, ℕ, List, ◌++◌, suc, ◌-◌, ◌*◌, ◌≤◌, length, take, drop, sym, ap, ◌∙◌, arith, length-take-le, length-drop, zero-add}
use Rattle.std.specs.List.{copy_within}
use Rattle.arith.specs.Splice.{over, splice}
use Rattle.history.specs.History.{slot_size, step_bytes, zero_slots}
use Rattle.history.specs.History.Laws.{appended_room, appended_full}
use Rattle.history.proofs.append.Goals as goal

-- all slots but the first of d, moved down by one
moved_down : (d : ℕ) (h : List ℕ) → 1 ≤ d → slot_size * d ≤ length h → copy_within h slot_size (slot_size * d) 0 ≡ over (take (slot_size * (d - 1)) (drop slot_size h)) h
unfolding over
moved_down d h o l =
    let n : slot_size * d - slot_size ≡ slot_size * (d - 1) = omega arith in
    let long : length (take (slot_size * (d - 1)) (drop slot_size h)) ≡ slot_size * (d - 1) = length-take-le _ _ (simp length-drop (omega arith)) in
    λ i. take (n i) (drop slot_size h) ++ drop ((zero-add _ ∙ n ∙ sym long) i) h

pub returns-then-past-depth : goal.returns-then-past-depth
returns-then-past-depth c =
    let a = c.args in
    c.write_last.ensures ∙ appended_room a.depth a.past a.step a.history.now (omega arith) c.requires.2

pub returns-else-past-depth : goal.returns-else-past-depth
returns-else-past-depth c =
    let a = c.args in
    let h = a.history.now in
    c.write_last-else-past-depth.ensures
    ∙ ap (splice (slot_size * (a.depth - 1)) (step_bytes a.step ++ zero_slots (a.depth - suc (a.depth - 1))))
    (c.copy_within.ensures.after ∙ moved_down a.depth h c.requires.0 c.requires.2)
    ∙ appended_full a.depth a.past a.step h c.requires.0 (omega arith) c.requires.2
