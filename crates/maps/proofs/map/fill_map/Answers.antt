-- `maps::map::fill_map` meets its contract: the first i bytes are written.
use Rattle.std.proofs.Common.{◌≡◌, arith}
use Rattle.arith.specs.Filling.{fill_start, fill_next}
use Rattle.record.specs.Shape.{set_size}
use Rattle.maps.specs.Map.{map_at, map_of, map_made}
use Rattle.maps.proofs.map.fill_map.Goals as goal

pub loop-i-init : goal.loop-i-init
loop-i-init c = fill_start _ _

pub map_at-requires : goal.map_at-requires
unfolding set_size
map_at-requires c = (omega (arith, c.requires.set_room), omega (arith, c.requires.averages_room))

pub loop-i-preserved : goal.loop-i-preserved
loop-i-preserved c =
    let a = c.args in
    fill_next (map_at a.limits a.set.now a.averages.now) c.loop-i.map a.map.now c.loop-i.i _ (omega (arith, c.requires.map_room)) c.map_at.ensures c.loop-i.invariant

pub returns : goal.returns
unfolding map_made map_of
returns c = let e : c.loop-i.i ≡ c.blocks-n.result = omega arith in rw (← c.blocks-n.ensures, ← e) c.loop-i.invariant
