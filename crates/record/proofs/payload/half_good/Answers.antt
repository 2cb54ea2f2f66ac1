-- `record::payload::half_good` meets its contract: the count, then the room.
use Prim.Native.Nat.{ℕ, ◌+◌, ◌*◌, ◌≤◌}
use native.Mathlib.Omega.{arith}
use mathlib.Core.Path.{◌≡◌, sym, ap, ◌∙◌}
use mathlib.Core.Bool.{Bool, ◌&&◌}
use mathlib.Core.List.{List}
use lib.Dec.{leb}
use lib.IntN.{pos}
use lib.ListN.{length}
use mir.Syntax.{w32}
use mir.Val.{to_z}
use mir.ValLaws.{to_z_pos}
use Rattle.arith.specs.Booleans.{by_test}
use Rattle.record.specs.declared.shape.FieldShape.{FieldShape}
use Rattle.record.specs.Shape.{blocks_of, set_size}
use Rattle.record.specs.Shape.Laws.{shape_bounds}
use Rattle.record.specs.Update.{has_at, half_good}
use Rattle.record.proofs.payload.half_good.Goals as goal

-- what the code found of the count
count : (s : FieldShape) (p : List ℕ) (at : ℕ) {n : ℕ} {found test : Bool} → blocks_of s ≤ 1048576 → n ≡ blocks_of s → found ≡ has_at p at (to_z w32 (2 * n + 1)) → found ≡ test
    → has_at p at (pos (2 * blocks_of s + 1)) ≡ test
count s p at {n} h e f t =
    ap (has_at p at) (sym (to_z_pos w32 (2 * n + 1) (omega arith) ∙ ap (λ (k : ℕ). pos (2 * k + 1)) e)) ∙ sym f ∙ t

pub overflow_mul-expected : goal.overflow_mul-expected
overflow_mul-expected c = omega (arith, c.blocks-n.ensures, (shape_bounds c.args.shape c.requires.0).blocks_most)

pub overflow_add-expected : goal.overflow_add-expected
overflow_add-expected c = omega (arith, c.blocks-n.ensures, (shape_bounds c.args.shape c.requires.0).blocks_most)

pub overflow_cast-expected : goal.overflow_cast-expected
overflow_cast-expected c = record { sfits = omega (arith, c.blocks-n.ensures, (shape_bounds c.args.shape c.requires.0).blocks_most) }

pub overflow_mul-result : goal.overflow_mul-result
overflow_mul-result c = omega (arith, c.blocks-n.ensures, (shape_bounds c.args.shape c.requires.0).blocks_most)

pub overflow_add-result-then-has_at : goal.overflow_add-result-then-has_at
overflow_add-result-then-has_at c = omega (arith, c.requires.1, c.blocks-n.ensures, (shape_bounds c.args.shape c.requires.0).blocks_most)

pub returns-then-has_at : goal.returns-then-has_at
unfolding half_good set_size
returns-then-has_at c =
    let a = c.args in
    ap (λ (n : ℕ). leb (a.at + 4 + 8 * n) (length a.payload.now)) c.blocks-n.ensures
    ∙ by_test (λ t. t && leb (a.at + 4 + set_size a.shape) (length a.payload.now)) (count a.shape a.payload.now a.at (shape_bounds a.shape c.requires.0).blocks_most c.blocks-n.ensures c.has_at.ensures c.if-has_at.true)

pub returns-else-has_at : goal.returns-else-has_at
unfolding half_good set_size
returns-else-has_at c =
    let a = c.args in
    c.if-has_at.false
    ∙ by_test (λ t. t && leb (a.at + 4 + set_size a.shape) (length a.payload.now)) (count a.shape a.payload.now a.at (shape_bounds a.shape c.requires.0).blocks_most c.blocks-n.ensures c.has_at.ensures c.if-has_at.false)
