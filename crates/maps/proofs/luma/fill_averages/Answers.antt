-- `maps::luma::fill_averages` meets its contract: the first i averages are written.
use Rattle.std.proofs.Common.{◌≡◌, arith}
use Rattle.arith.specs.Filling.{fill_start, fill_next}
use Rattle.record.specs.Shape.{set_size}
use Rattle.maps.specs.Luma.{average_at, averages_of, averages_made}
use Rattle.maps.proofs.luma.fill_averages.Goals as goal

pub loop-i-init : goal.loop-i-init
loop-i-init c = fill_start _ _

pub average-requires : goal.average-requires
unfolding set_size
average-requires c =
    let p = c.requires in
    (omega (arith, p.backward_room), omega (arith, p.forward_room), p.table_room)

pub loop-i-preserved : goal.loop-i-preserved
loop-i-preserved c =
    let a = c.args in
    fill_next (average_at a.table.now a.backward.now a.forward.now) c.loop-i.averages a.averages.now c.loop-i.i _
    (omega (arith, c.requires.averages_room)) c.average.ensures c.loop-i.invariant

pub returns : goal.returns
unfolding averages_made averages_of
returns c = let e : c.loop-i.i ≡ c.blocks-n.result = omega arith in rw (← c.blocks-n.ensures, ← e) c.loop-i.invariant
