-- The vector record (paper 01, 'Record and shape').
use Rattle.std.specs.Prelude.{Bool, cond, ◌&&◌, List, ℕ, leb, pos, length, Result, Ok, Err}
use Rattle.arith.specs.Integers.{eqb_z}
use Rattle.record.specs.declared.data.VectorData.{VectorData}
use Rattle.record.specs.declared.refusal.Refusal.{Refusal}
use Rattle.record.specs.Bytes.{i32_at}
use Rattle.record.specs.Refusals.{code}

-- a record is at least 60 bytes, and the i32 at 0x00 is 160
unfoldable pub record_accepted : List ℕ → Bool
record_accepted b = leb 60 (length b) && eqb_z (i32_at b 0x00) (pos 160)

-- each field at its place
unfoldable pub fields_of : List ℕ → VectorData
fields_of b =
    record {
      flags = i32_at b 0x04;
      block = record { width = i32_at b 0x08; height = i32_at b 0x0C };
      shape = record { width = i32_at b 0x1C; height = i32_at b 0x20 };
      grid = record { width = i32_at b 0x2C; height = i32_at b 0x30 };
      marker = i32_at b 0x10;
      selector = i32_at b 0x34;
      delta = i32_at b 0x38;
      overlap_x = i32_at b 0x24;
      overlap_y = i32_at b 0x28;
    }

-- beside a refusal every value is 0
unfoldable pub no_fields : VectorData
no_fields =
    record {
      flags = pos 0;
      block = record { width = pos 0; height = pos 0 };
      shape = record { width = pos 0; height = pos 0 };
      grid = record { width = pos 0; height = pos 0 };
      marker = pos 0;
      selector = pos 0;
      delta = pos 0;
      overlap_x = pos 0;
      overlap_y = pos 0;
    }

-- the answer of vector_data: the paper's number, 0 for accepted, and the record's values
pub record Reading : Type 0 where
  pub number : ℕ
  pub values : VectorData

-- what each case of the result means
unfoldable pub reading_of : Result VectorData Refusal → Reading
reading_of (Ok d) = record { number = 0; values = d }
reading_of (Err refusal) = record { number = code refusal; values = no_fields }

-- vector_data: refused by 1 and by 1 only
unfoldable pub vector_data_of : List ℕ → Reading
vector_data_of b = cond (record_accepted b) (record { number = 0; values = fields_of b }) (record { number = 1; values = no_fields })
