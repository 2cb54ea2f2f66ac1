-- `record::data::vector_data` meets its contract: two tests, then the fields.
use mathlib.Core.Path.{◌≡◌, sym, ap, ◌∙◌}
use borrow.Author.Tests.{le-leb, lt-leb}
use lib.IntN.{ℤ, pos}
use lib.ListN.{length}
use lib.Dec.{leb, lit<}
use mir.Syntax.{w32}
use Rattle.arith.specs.Booleans.{cond_true, cond_false, and_both, and_not_left, and_not_right}
use Rattle.arith.specs.Integers.{eqb_z}
use Rattle.arith.specs.Signed.{bits_same, bits_differ}
use Rattle.record.specs.declared.data.VectorData.{VectorData}
use Rattle.record.specs.Data.{record_accepted, reading_of, vector_data_of, Reading}
use Rattle.record.proofs.data.vector_data.Goals as goal

abbrev ready : VectorData → Reading
ready d = record { number = 0; values = d }

-- the test of the first field, as it was read
is_magic : {read there : ℤ} → read ≡ there → eqb_z there (pos 160) ≡ eqb_z read (pos 160)
is_magic e = ap (λ (z : ℤ). eqb_z z (pos 160)) (sym e)

pub returns-then-data-lt-VECTOR_DATA_LEN : goal.returns-then-data-lt-VECTOR_DATA_LEN
unfolding vector_data_of reading_of record_accepted
returns-then-data-lt-VECTOR_DATA_LEN c =
    let b = c.args.«data».now in
    sym (cond_false _ _ _ (and_not_left (leb 60 (length b)) _ (lt-leb 60 (length b) c.if-data-lt-VECTOR_DATA_LEN.true)))

pub returns-then-i32_at-ne-VECTOR_MAGIC : goal.returns-then-i32_at-ne-VECTOR_MAGIC
unfolding vector_data_of reading_of record_accepted
returns-then-i32_at-ne-VECTOR_MAGIC c =
    let b = c.args.«data».now in
    sym
    (cond_false _ _ _
    (and_not_right (leb 60 (length b)) _
    (is_magic c.i32_at.ensures ∙ bits_differ w32 c.i32_at.result (pos 160) c.if-i32_at-ne-VECTOR_MAGIC.true)))

pub returns : goal.returns
unfolding vector_data_of reading_of record_accepted
returns c =
    let b = c.args.«data».now in
    let h = c.if-data-lt-VECTOR_DATA_LEN.false in
    let magic = is_magic c.i32_at.ensures ∙ bits_same w32 {a = c.i32_at.result} {b = pos 160} (record { sfits = c.i32_at.type_inv }) (record { sfits = lit< tt }) c.if-i32_at-ne-VECTOR_MAGIC.false in
    ap ready c.fields_of.ensures
    ∙ sym (cond_true _ _ _ (and_both (leb 60 (length b)) _ (le-leb 60 (length b) h) magic))
