-- Laws of the averages: what an accepted call has, their length, and the front of a set.
use Rattle.std.specs.Prelude.{◌≡◌, ℕ, ◌+◌, ◌≤◌, List, length, take, slice_index_or, refl}
use Rattle.std.proofs.Common.{ap}
use Rattle.arith.specs.Filling.{fill_length}
use Rattle.arith.specs.Splice.{over}
use Rattle.arith.specs.Tabulate.Laws.{tab_same}
use Rattle.record.specs.declared.shape.FieldShape.{FieldShape}
use Rattle.record.specs.Shape.{blocks_of, set_size}
use Rattle.record.specs.Shape.Laws.{Accepted}
use Rattle.record.specs.Checks.{sets_number}
use Rattle.record.specs.Entries.Again.{entry_front}
use Rattle.record.specs.Numbers.Laws.{both_zero}
use Rattle.maps.specs.Ready.{two_ready}
use Rattle.maps.specs.Luma.{table_size, average_at, averages_of, averages_made, luma_number}

-- what a fill requires: an accepted shape, and buffers as long as it asks
pub record AveragesReady (s : FieldShape) (backward forward table averages : ℕ) : Type 0 where
  pub accepted : Accepted s
  pub backward_room : set_size s ≤ backward
  pub forward_room : set_size s ≤ forward
  pub table_room : table_size ≤ table
  pub averages_room : blocks_of s ≤ averages

pub luma_ready : (s : FieldShape) (backward forward table averages : ℕ) → luma_number s backward forward table averages ≡ 0
    → AveragesReady s backward forward table averages
unfolding luma_number
luma_ready s backward forward table averages e =
    let z = both_zero (sets_number s backward forward) _ e in
    let r = two_ready s backward forward table_size table (blocks_of s) averages z.0 z.1 in
    record {
      accepted = r.sets.accepted;
      backward_room = r.sets.backward_room;
      forward_room = r.sets.forward_room;
      table_room = r.one_room;
      averages_room = r.other_room;
    }

pub length_averages_made : (s : FieldShape) (table backward forward l : List ℕ) → blocks_of s ≤ length l → length (averages_made s table backward forward l) ≡ length l
unfolding averages_made averages_of
length_averages_made s table backward forward l h =
    fill_length (average_at table backward forward) (averages_made s table backward forward l) l (blocks_of s) h refl

-- averages depend on the first 8n bytes of each set
pub averages_front : (s : FieldShape) (table backward forward l : List ℕ)
    → averages_made s table (take (set_size s) backward) (take (set_size s) forward) l ≡ averages_made s table backward forward l
unfolding averages_made averages_of average_at
averages_front s table backward forward l =
    ap (λ (t : List ℕ). over t l)
    (tab_same (average_at table (take (set_size s) backward) (take (set_size s) forward)) (average_at table backward forward) (blocks_of s)
    (λ k h i.
    slice_index_or table
    ((entry_front s backward k h i).luma + (entry_front s forward k h i).luma) 0))
