-- `maps::kept::score_from` meets its contract: the average from both sets, the sad from the shown one.
use Rattle.std.proofs.Common.{◌≡◌, ℕ, List, ap, ◌∙◌, arith, w32}
use Rattle.arith.specs.Signed.{read, answered}
use Rattle.record.specs.declared.entry.BlockVector.{BlockVector}
use Rattle.record.specs.Entries.{entry_at, set_of, side_set}
use Rattle.record.specs.Entries.Again.{entry_front}
use Rattle.record.specs.Shape.Laws.{entry_room}
use Rattle.maps.specs.Luma.{average_at}
use Rattle.maps.specs.Map.{score_of}
use Rattle.maps.proofs.Laws.Map.{score_fits}
use Rattle.maps.specs.Kept.{score_from}
use Rattle.maps.proofs.kept.score_from.Goals as goal

pub average-average-requires : goal.average-average-requires
average-average-requires c =
    let a = c.args in
    let r = c.requires in
    let b = entry_room a.shape a.block _ r.1 r.2 in
    let f = entry_room a.shape a.block _ r.1 r.3 in
    (omega arith, omega arith, r.4)

pub sad_at-requires : goal.sad_at-requires
sad_at-requires c = let l = c.set-shown.ensures.1 in entry_room c.args.shape c.args.block _ c.requires.1 (omega arith)

pub returns : goal.returns
unfolding score_from side_set
returns c =
    let a = c.args in
    let X : List ℕ = set_of a.side a.backward.now a.forward.now in
    let average : ℕ = average_at a.table.now a.backward.now a.forward.now a.block in
    let e : c.average-average.result ≡ average = c.average-average.ensures in
    read w32
    (c.score.ensures
    ∙ (λ i. score_of (answered w32 c.sad_at.type_inv c.sad_at.ensures i) (e i))
    ∙ ap (λ (l : List ℕ). score_of (entry_at l a.block).sad average) c.set-shown.ensures.0
    ∙ ap (λ (v : BlockVector). score_of v.sad average) (entry_front a.shape X a.block c.requires.1))
    (score_fits _ _)
