-- `record::fields::put_u32` meets its contract: four stores in a row are one part.
use native.Mathlib.Omega.{arith}
use lib.ListN.{length-set}
use Rattle.arith.specs.Splice.Laws.{splice_four}
use Rattle.record.specs.Bytes.{u32_bytes}
use Rattle.record.proofs.fields.put_u32.Goals as goal

pub bounds-s-at-2 : goal.bounds-s-at-2
bounds-s-at-2 c = simp length-set (omega arith)

pub bounds-s-at-3 : goal.bounds-s-at-3
bounds-s-at-3 c = simp length-set (omega arith)

pub bounds-s-at-4 : goal.bounds-s-at-4
bounds-s-at-4 c = simp length-set (omega arith)

pub shape_of-s : goal.shape_of-s
shape_of-s c = simp length-set

pub returns : goal.returns
unfolding u32_bytes
returns c = splice_four _ _ _ _ _ _ c.requires
