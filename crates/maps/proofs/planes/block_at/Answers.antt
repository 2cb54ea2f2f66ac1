-- `maps::planes::block_at` meets its contract: the lesser of two numbers, of grid sides of at most 1,024.
use Rattle.std.proofs.Common.{◌+◌, ◌-◌, ◌*◌, min, ◌∙◌}
use Rattle.record.specs.Shape.{block_in, block_at}
use Rattle.maps.proofs.planes.block_at.Goals as goal

pub returns : goal.returns
unfolding block_at block_in
returns c =
    let a = c.args in
    let w = c.columns-w.ensures in
    let h = c.rows-h.ensures in
    λ i. (c.min.ensures ∙ (λ j. min a.y (h j - 1))) i * w i + (c.min-2.ensures ∙ (λ j. min a.x (w j - 1))) i
