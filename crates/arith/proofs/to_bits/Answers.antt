-- `arith::to_bits` meets its contract: a signed number's bits are its residue.
use Rattle.std.proofs.Common.{ap, ◌∙◌, w32, of_z}
use Rattle.arith.specs.Signed.{back}
use Rattle.arith.specs.Wrap.Laws.{bits_res}
use Rattle.arith.proofs.to_bits.Goals as goal

pub returns : goal.returns
returns c = c.cast_unsigned.ensures ∙ ap (of_z w32) (back w32 c.ranges.x) ∙ bits_res c.args.x c.ranges.x
