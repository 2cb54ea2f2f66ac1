-- What a struct of lent buffers holds, and that it holds the same ones after a call.
use Rattle.std.specs.Prelude.{List, ℕ, [], ◌≡◌}
use Rattle.state.specs.declared.lent.LentBuffers.{LentBuffers}
use Rattle.state.specs.Buffers.{Buffers, lent, sizes_of}

-- the nine buffers at this moment
abbrev pub held : LentBuffers → List ℕ → Buffers
held b history = lent b.backward.now b.forward.now b.table.now b.grid.now b.xs.now b.ys.now b.averages.now b.map.now history

-- the same references, so that the one who lent them knows what each of them holds, and each as long as it was; the table, which is only read, as it was
pub record SameReferences (b c : LentBuffers) : Type 0 where
  pub backward : b.backward.ghost_name ≡ c.backward.ghost_name
  pub forward : b.forward.ghost_name ≡ c.forward.ghost_name
  pub table : b.table.now ≡ c.table.now
  pub grid : b.grid.ghost_name ≡ c.grid.ghost_name
  pub xs : b.xs.ghost_name ≡ c.xs.ghost_name
  pub ys : b.ys.ghost_name ≡ c.ys.ghost_name
  pub averages : b.averages.ghost_name ≡ c.averages.ghost_name
  pub map : b.map.ghost_name ≡ c.map.ghost_name
  pub sizes : sizes_of (held b []) ≡ sizes_of (held c [])
