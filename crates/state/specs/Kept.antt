-- The kept class: paper 01's class from the counts that a session keeps, which is all that the call is given (paper 02, request 1).
use Rattle.std.specs.Prelude.{Bool, cond, ◌&&◌, ℕ, eqb, leb}
use Rattle.record.specs.Checks.{side_number}
use Rattle.record.specs.Numbers.{first, unless}
use Rattle.record.specs.Shape.{shape_number, blocks_of}
use Rattle.scatter.specs.Geometry.{time_number}
use Rattle.maps.specs.declared.class.Counts.{Counts}
use Rattle.maps.specs.Class.{class_of, Graded, graded, refused}
use Rattle.state.specs.declared.session.Session.{Session}
pub mod Laws

-- 12: no count exceeds n
unfoldable pub kept_good : ℕ → Counts → Bool
kept_good n c = leb c.counted n && leb c.scene n && leb c.m2 n && leb c.m1 n

-- 2, 8, 7: what the session carries; 12 after 7. No buffer is lent, so that 3 can't arise
unfoldable pub kept_number : Session → ℕ
kept_number s =
    first (shape_number s.shape)
    (first (side_number s.side) (first (time_number s.time) (unless (kept_good (blocks_of s.shape) s.kept) 12)))

unfoldable pub kept_class_of : Session → Graded
kept_class_of s =
    let class : ℕ = class_of s.limits.blocks s.kept in
    cond (eqb (kept_number s) 0) (graded class) (refused (kept_number s))
