-- What the one who lent buffers in a struct knows of them after a call.
use mathlib.Core.Path.{◌≡◌, refl, ◌∙◌}
use mathlib.Core.List.{List}
use Prim.Native.Nat.{ℕ}
use lib.IntN.{ℤ}
use Rattle.state.specs.declared.lent.LentBuffers.{LentBuffers}
use Rattle.state.specs.Buffers.{lent}
use Rattle.state.specs.Lent.{held, SameReferences}

-- each buffer ends as the struct leaves it
pub ended : (b f t : List ℕ) (g : List ℤ) (xs ys a m h : List ℕ) (e : LentBuffers) → b ≡ e.backward.now → f ≡ e.forward.now → t ≡ e.table.now
    → g ≡ e.grid.now → xs ≡ e.xs.now → ys ≡ e.ys.now → a ≡ e.averages.now → m ≡ e.map.now → lent b f t g xs ys a m h ≡ held e h
ended b f t g xs ys a m h e eb ef et eg ex ey ea em = λ i. lent (eb i) (ef i) (et i) (eg i) (ex i) (ey i) (ea i) (em i) h

-- kept by calls that keep it
pub same_again : {b c d : LentBuffers} → SameReferences d c → SameReferences c b → SameReferences d b
same_again q p =
    record {
      backward = q.backward ∙ p.backward;
      forward = q.forward ∙ p.forward;
      table = q.table ∙ p.table;
      grid = q.grid ∙ p.grid;
      xs = q.xs ∙ p.xs;
      ys = q.ys ∙ p.ys;
      averages = q.averages ∙ p.averages;
      map = q.map ∙ p.map;
      sizes = q.sizes ∙ p.sizes;
    }

pub same_at_first : {b : LentBuffers} → SameReferences b b
same_at_first = record { backward = refl; forward = refl; table = refl; grid = refl; xs = refl; ys = refl; averages = refl; map = refl; sizes = refl }
