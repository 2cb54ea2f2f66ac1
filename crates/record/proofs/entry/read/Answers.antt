-- `record::entry::read` meets its contract: its four fields, each read.
use mir.Syntax.{w16, w32}
use Rattle.arith.specs.Signed.{answered}
use Rattle.record.proofs.entry.read.Goals as goal

pub returns : goal.returns
returns c =
    λ j. record {
      x = (answered w16 c.x_at.type_inv c.x_at.ensures) j;
      y = (answered w16 c.y_at.type_inv c.y_at.ensures) j;
      sad = (answered w32 c.sad_at.type_inv c.sad_at.ensures) j;
      luma = c.luma_at.ensures j;
    }
