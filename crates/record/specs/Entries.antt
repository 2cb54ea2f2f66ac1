-- The entries of a vector set (paper 01, 'Entries and update': 8 bytes to an entry).
use Rattle.std.specs.Prelude.{◌≡◌, Bool, cond, ◌||◌, List, [], ◌∷◌, ℕ, ◌+◌, ◌*◌, ◌/◌, ◌%◌, ◌<◌, eqb, pos, take}
use Rattle.std.specs.Int.{w16, w32}
use Rattle.std.proofs.Common.{SFits, of_z}
use Rattle.arith.specs.Integers.{up}
use Rattle.arith.specs.Splice.{splice}
use Rattle.record.specs.declared.entry.BlockVector.{BlockVector}
use Rattle.record.specs.declared.shape.FieldShape.{FieldShape}
use Rattle.record.specs.Bytes.{byte_at, i16_at, u24_at}
use Rattle.record.specs.Shape.{set_size}
pub mod Laws
pub mod Again

-- entry i: bytes 0-1 y, bytes 2-3 x, bytes 4-6 sad, byte 7 luma
unfoldable pub entry_at : List ℕ → ℕ → BlockVector
entry_at set i =
    record {
      x = i16_at set (8 * i + 2);
      y = i16_at set (8 * i);
      sad = pos (u24_at set (8 * i + 4));
      luma = byte_at set (8 * i + 7);
    }

-- the 8 bytes of an entry
unfoldable pub entry_bytes : BlockVector → List ℕ
entry_bytes v =
    of_z w16 v.y % 256 ∷
    of_z w16 v.y / 256 ∷
    of_z w16 v.x % 256 ∷
    of_z w16 v.x / 256 ∷
    up v.sad % 256 ∷
    up v.sad / 256 % 256 ∷
    up v.sad / 65536 ∷
    v.luma ∷
    []

-- a set with v as its entry i
unfoldable pub with_entry : List ℕ → ℕ → BlockVector → List ℕ
with_entry set i v = splice (8 * i) (entry_bytes v) set

-- what the types of an entry's fields hold: its sad comes as an i32
pub record EntryTyped (v : BlockVector) : Type 0 where
  pub x : SFits w16 v.x
  pub y : SFits w16 v.y
  pub sad : SFits w32 v.sad
  pub luma : v.luma < 256

-- values that 8 bytes hold: a sad from 0 to 16,777,215
pub record Holds (v : BlockVector) : Type 0 where
  pub x : SFits w16 v.x
  pub y : SFits w16 v.y
  pub sad_is : v.sad ≡ pos (up v.sad)
  pub sad_most_lem : up v.sad < 16777216
  pub luma : v.luma < 256

-- number 8: a side is 1, backward, or 2, forward
unfoldable pub side_accepted : ℕ → Bool
side_accepted side = eqb side 1 || eqb side 2

-- of two sets the one of a side: 1 backward, 2 forward
unfoldable pub set_of {ℓ} : {A : Type ℓ} → ℕ → A → A → A
set_of side backward forward = cond (eqb side 1) backward forward

-- the 8n bytes of the set of a side; its surplus is not looked at
unfoldable pub side_set : FieldShape → ℕ → List ℕ → List ℕ → List ℕ
side_set s side backward forward = take (set_size s) (set_of side backward forward)
