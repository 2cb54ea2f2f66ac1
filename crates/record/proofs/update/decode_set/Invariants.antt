-- `record::update::decode_set` meets its contract. The invariant: the first k pieces are copied.
use Rattle.std.proofs.Common.{◌≡◌, ◌*◌, take}
use Rattle.arith.specs.Splice.{over}
use Rattle.record.proofs.update.decode_set.Given as goal

abbrev pub invariant-loop-k : goal.invariant-loop-k
invariant-loop-k l = l.set ≡ over (take (4096 * l.k) l.part) l.initial.set
