-- `record::shape::packed_width` meets its contract.
use mathlib.Core.Path.{◌∙◌}
use Rattle.record.specs.Shape.{packed_of, width_of}
use Rattle.record.specs.Shape.Laws.{block_back, overlap_back, grid_back, picture_back}
use Rattle.record.proofs.shape.packed_width.Goals as goal

pub returns : goal.returns
unfolding width_of
returns c =
    let a = c.requires.x in
    c.packed.ensures ∙ (λ i. packed_of (block_back a i) (overlap_back a i) (grid_back a i) (picture_back a i))
