-- Laws of the kept class: what holds where it is accepted, and where it is.
use Rattle.std.specs.Prelude.{◌≡◌, Bool, true, ◌&&◌, ℕ, eqb, leb, Ok}
use Rattle.std.proofs.Common.{◌∙◌, arith, eq-eqb, leb-true, le-leb}
use Rattle.arith.specs.Booleans.{and_left, and_right, and_both, cond_true}
use Rattle.record.specs.Checks.Laws.{side_number_lem}
use Rattle.record.specs.Entries.{side_accepted}
use Rattle.record.specs.Numbers.Laws.{both_zero, unless_zero, unless_good, first_zero}
use Rattle.record.specs.Shape.{blocks_of, shape_accepted, shape_number}
use Rattle.record.specs.Shape.Laws.{Accepted, number_accepted, accepted_number, shape_bounds}
use Rattle.scatter.specs.Geometry.{time_accepted}
use Rattle.scatter.specs.Geometry.Laws.{accepted_time}
use Rattle.maps.specs.declared.class.Counts.{Counts}
use Rattle.maps.specs.Class.{class_of, graded_of}
use Rattle.maps.specs.Class.Laws.{AtMost, most_more}
use Rattle.state.specs.declared.session.Session.{Session}
use Rattle.state.specs.Kept.{kept_good, kept_number, kept_class_of}

-- the four tests as plain facts, and back
kept_within : (n : ℕ) (c : Counts) → kept_good n c ≡ true → AtMost n c
unfolding kept_good
kept_within n c e =
    let a₁ : Bool = leb c.counted n in
    let a₂ : Bool = leb c.scene n in
    let a₃ : Bool = leb c.m2 n in
    let a₄ : Bool = leb c.m1 n in
    let e₃ = and_left (a₁ && a₂ && a₃) a₄ e in
    let e₂ = and_left (a₁ && a₂) a₃ e₃ in
    record {
      counted = leb-true _ _ (and_left a₁ a₂ e₂);
      scene = leb-true _ _ (and_right a₁ a₂ e₂);
      m2 = leb-true _ _ (and_right (a₁ && a₂) a₃ e₃);
      m1 = leb-true _ _ (and_right (a₁ && a₂ && a₃) a₄ e);
    }

within_kept : (n : ℕ) (c : Counts) → AtMost n c → kept_good n c ≡ true
unfolding kept_good
within_kept n c h =
    let a₁ : Bool = leb c.counted n in
    let a₂ : Bool = leb c.scene n in
    let a₃ : Bool = leb c.m2 n in
    and_both (a₁ && a₂ && a₃) _
    (and_both (a₁ && a₂) a₃ (and_both a₁ a₂ (le-leb _ _ h.counted) (le-leb _ _ h.scene)) (le-leb _ _ h.m2))
    (le-leb _ _ h.m1)

-- an accepted call has counts of at most the largest grid's blocks
pub kept_ready : (s : Session) → kept_number s ≡ 0 → AtMost 1048576 s.kept
unfolding kept_number
kept_ready s e =
    let z = both_zero (shape_number s.shape) _ e in
    let rest = (both_zero _ _ (both_zero _ _ z.1).1).1 in
    let a : Accepted s.shape = number_accepted s.shape z.0 in
    most_more
    (kept_within _ s.kept (unless_zero (kept_good (blocks_of s.shape) s.kept) 12 (λ q. omega arith) rest))
    (shape_bounds s.shape a).blocks_most

-- an accepted call answers the class of the kept counts
pub kept_class : (s : Session) → kept_number s ≡ 0 → kept_class_of s ≡ graded_of (Ok (class_of s.limits.blocks s.kept))
unfolding kept_class_of
kept_class s e = cond_true (eqb (kept_number s) 0) _ _ (eq-eqb (kept_number s) 0 e)

-- one that is: what the session carries is accepted, and no count exceeds n
pub kept_accepts : (s : Session) → shape_accepted s.shape ≡ true → side_accepted s.side ≡ true → time_accepted s.time ≡ true → AtMost (blocks_of s.shape) s.kept
    → kept_number s ≡ 0
unfolding kept_number
kept_accepts s a b t h =
    first_zero _ _ (accepted_number s.shape a)
    ∙ first_zero _ _ (side_number_lem s.side b)
    ∙ first_zero _ _ (accepted_time s.time t)
    ∙ unless_good (kept_good (blocks_of s.shape) s.kept) 12 (within_kept _ s.kept h)
