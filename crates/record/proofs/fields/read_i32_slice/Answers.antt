-- `record::fields::read_i32_slice` meets its contract: a value where the four bytes are within, else nothing.
use Prim.Native.Nat.{◌+◌}
use native.Mathlib.Omega.{arith}
use mathlib.Core.Path.{sym, ap, ◌∙◌}
use borrow.Author.Tests.{le-leb, lt-leb}
use lib.ListN.{length}
use Rattle.std.proofs.Common.{Some}
use Rattle.arith.specs.Booleans.{cond_true, cond_false}
use Rattle.arith.specs.Signed.{answered}
use mir.Syntax.{w32}
use Rattle.record.specs.Bytes.{read_at}
use Rattle.record.proofs.fields.read_i32_slice.Goals as goal

pub returns-then-data-lt4 : goal.returns-then-data-lt4
unfolding read_at
returns-then-data-lt4 c = let a = c.args in sym (cond_false _ _ _ (lt-leb (a.offset + 4) (length a.«data».now) (omega arith)))

pub returns : goal.returns
unfolding read_at
returns c =
    let a = c.args in
    ap Some (answered w32 c.i32_at.type_inv c.i32_at.ensures)
    ∙ sym (cond_true _ _ _ (le-leb (a.offset + 4) (length a.«data».now) (omega arith)))
