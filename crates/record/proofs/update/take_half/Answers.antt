-- `record::update::take_half` meets its contract: the part that starts at `at` begins with the half.
use native.Mathlib.Omega.{arith}
use mathlib.Core.Path.{◌∙◌}
use lib.ListN.{take, length-take, length-drop}
use Rattle.arith.specs.Splice.{over}
use Rattle.arith.specs.Splice.Laws.{take_rest}
use Rattle.record.proofs.update.take_half.Goals as goal

pub slice_bounds-decode_set-count : goal.slice_bounds-decode_set-count
slice_bounds-decode_set-count c = omega arith

pub slice_bounds-decode_set-start : goal.slice_bounds-decode_set-start
slice_bounds-decode_set-start c = omega arith

pub decode_set-requires : goal.decode_set-requires
decode_set-requires c = (simp (length-take, length-drop) (omega arith), omega arith)

pub returns : goal.returns
returns c =
    let a = c.args in
    c.decode_set.ensures
    ∙ (λ i. over (take a.size (take_rest a.payload.now a.at i)) a.set.now)
