-- `masks::rows::cover_row` meets its contract: three passes make a row of the mask.
use Rattle.std.proofs.Common.{rules}
use Rattle.masks.specs.Cover.Laws.{covers_bounded, row_made}
use Rattle.masks.proofs.rows.cover_row.Goals as goal

pub bytes-requires : goal.bytes-requires
bytes-requires c = record { covers = covers_bounded _ _ _ _ _ c.covers.ensures; room = (search rules, search rules) }

pub returns : goal.returns
returns c = row_made _ _ _ _ _ _ _ _ _ _ _ _ c.columns.ensures c.covers.ensures c.bytes.ensures
