-- `record::data::fields_of` meets its contract, field by field.
use mir.Syntax.{w32}
use Rattle.arith.specs.Signed.{answered}
use Rattle.record.specs.Data.{fields_of}
use Rattle.record.proofs.data.fields_of.Goals as goal

pub returns : goal.returns
unfolding fields_of
returns c =
    λ i. record {
      flags = (answered w32 c.i32_at.type_inv c.i32_at.ensures) i;
      block = record { width = c.pair-block.ensures.0 i; height = c.pair-block.ensures.1 i };
      shape = record { width = c.pair-shape.ensures.0 i; height = c.pair-shape.ensures.1 i };
      grid = record { width = c.pair-grid.ensures.0 i; height = c.pair-grid.ensures.1 i };
      marker = (answered w32 c.i32_at-2.type_inv c.i32_at-2.ensures) i;
      selector = (answered w32 c.i32_at-3.type_inv c.i32_at-3.ensures) i;
      delta = (answered w32 c.i32_at-4.type_inv c.i32_at-4.ensures) i;
      overlap_x = (answered w32 c.struct_told-1.given.0.1 c.pair-overlap.ensures.0) i;
      overlap_y = (answered w32 c.struct_told-1.given.1.0.1 c.pair-overlap.ensures.1) i;
    }
