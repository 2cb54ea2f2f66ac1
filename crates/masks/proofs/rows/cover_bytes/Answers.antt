-- `masks::rows::cover_bytes` meets its contract: the local table is filled, and the local rows have room.
use Rattle.masks.proofs.rows.cover_bytes.Goals as goal

pub cover_lines-requires : goal.cover_lines-requires
cover_lines-requires c = record { width_most = c.requires.width_most; room = c.requires.room }
