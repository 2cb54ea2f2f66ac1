-- `maps::planes::packed_cell` meets its contract: two tests, and a component on each axis.
use Rattle.std.proofs.Common.{◌≡◌, Bool, ℤ, sym, ap, ◌∙◌, rules, w16, w32, SFits, to_z, of_z}
use Rattle.arith.specs.Booleans.{and_both, and_not_left, and_not_right, cond_true, cond_false}
use Rattle.arith.specs.Signed.{back}
use Rattle.record.specs.Shape.Laws.{block_back, picture_back}
use Rattle.maps.specs.Planes.{held, component_of, packed_cell}
use Rattle.maps.specs.Planes.Component.{component_ready}
use Rattle.maps.proofs.planes.packed_cell.Goals as goal
use Rattle.maps.proofs.planes.packed_cell.Goals.{then-not-is_held-via-then-not-is_held, then-not-is_held-via-else-not-is_held+then-not-is_held-2}

-- a test of a component, of the component itself
tested : {v : ℤ} {b t : Bool} → SFits w16 v → b ≡ held (to_z w16 (of_z w16 v)) → b ≡ t → held v ≡ t
tested f e g = ap held (sym (back w16 f)) ∙ sym e ∙ g

pub returns-then-not-is_held : goal.returns-then-not-is_held
unfolding packed_cell
returns-then-not-is_held c =
    elim c.then-not-is_held.branch [
      | then-not-is_held-via-then-not-is_held w ↦
          sym (cond_false _ _ _ (and_not_left _ _ (tested c.ranges.vx c.is_held.ensures w.if-not-is_held.true)))
      | then-not-is_held-via-else-not-is_held+then-not-is_held-2 w ↦
          sym (cond_false _ _ _ (and_not_right (held c.args.vx) _ (tested c.ranges.vy w.is_held-else-not-is_held.ensures w.if-not-is_held-2.true)))
    ]

pub component-x-requires : goal.component-x-requires
component-x-requires c =
    let x = c.requires.0.x in
    simp (back w16 c.ranges.vx, back w32 c.ranges.px, block_back x, picture_back x)
    (component_ready c.args.vx c.args.px x (tested c.ranges.vx c.is_held.ensures c.if-not-is_held.false) c.requires.1 c.requires.2)

pub component-y-requires : goal.component-y-requires
component-y-requires c =
    let y = c.requires.0.y in
    simp (back w16 c.ranges.vy, back w32 c.ranges.py, block_back y, picture_back y)
    (component_ready c.args.vy c.args.py y (tested c.ranges.vy c.is_held-else-not-is_held.ensures c.if-not-is_held-2.false) c.requires.3 c.requires.4)

pub returns : goal.returns
unfolding packed_cell
returns c =
    let a = c.requires.0 in
    let selector : SFits w32 c.args.shape.selector = search rules in
    (λ i.
    record {
      x =
          (c.component-x.ensures
          ∙ (λ j. component_of (back w32 selector j) (back w16 c.ranges.vx j) (back w32 c.ranges.px j) (block_back a.x j) (picture_back a.x j)))
          i;
      y =
          (c.component-y.ensures
          ∙ (λ j. component_of (back w32 selector j) (back w16 c.ranges.vy j) (back w32 c.ranges.py j) (block_back a.y j) (picture_back a.y j)))
          i;
    })
    ∙ sym (cond_true _ _ _ (and_both _ _ (tested c.ranges.vx c.is_held.ensures c.if-not-is_held.false) (tested c.ranges.vy c.is_held-else-not-is_held.ensures c.if-not-is_held-2.false)))
