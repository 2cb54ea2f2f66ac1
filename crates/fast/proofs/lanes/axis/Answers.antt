-- `fast::lanes::axis` meets its contract: how far each lane goes, then the floors.
use mathlib.Core.Path.{◌≡◌, ◌∙◌}
use native.Mathlib.Omega.{arith}
use lib.ListN.{length}
use Rattle.arith.specs.Filling.{fill_length}
use Rattle.fast.specs.Lanes.{lanes}
use Rattle.fast.specs.Lanes.Laws.{time_small, shift_small, scaled_bounded, axis_moved}
use Rattle.fast.proofs.lanes.axis.Goals as goal

pub scale_lanes-requires : goal.scale_lanes-requires
scale_lanes-requires c =
    let s = c in
    let h = s.requires.t_room in
    let k = s.requires.v_room in
    (shift_small s.args.g s.args.shift s.requires.shifted, time_small s.args.g s.args.shift s.requires.shifted, omega arith, omega arith, s.requires.small)

pub floor_lanes-requires : goal.floor_lanes-requires
floor_lanes-requires c =
    let s = c in
    let h = s.requires.t_room in
    let k = s.requires.q_room in
    let e = c.scale_lanes.ensures in
    let t = c.scale_lanes.new.t in
    let l : length t ≡ lanes = fill_length _ t s.args.t.now lanes (omega arith) e ∙ h in
    (s.requires.ready, omega arith, omega arith, scaled_bounded s.args.g s.args.shift s.requires.shifted s.args.v.now s.requires.small s.args.t.now t h e)

pub returns : goal.returns
returns c =
    let s = c in
    axis_moved s.args.g s.args.shift s.requires.shifted s.args.v.now s.requires.small s.args.t.now c.scale_lanes.new.t s.requires.t_room c.scale_lanes.ensures
    s.args.step.divisor s.args.q.now c.floor_lanes.new.q s.requires.q_room c.floor_lanes.ensures
