use Rattle.std.proofs.Common.{◌≡◌, ◌++◌, All}
use Rattle.std.specs.List.{AllZip, AllByRecursion}
use Rattle.sup_posts.specs.Jobs.{IsLane}
use Rattle.sup_driving.specs.Wires.{IsUnused}
use Rattle.sup_driving.specs.Teams.{IsWireOf, IsReceiveOf, IsReadyToReceive}
use Rattle.sup_driving.proofs.teams.split_lanes.Given as goal

abbrev pub invariant-loop-lane : goal.invariant-loop-lane
invariant-loop-lane g l =
    (l.yielded ++ l.lane-iterator.rest.items ≡ l.initial.lane-iterator.rest.items)
    × All (IsLane l.posts) l.lane-iterator.rest.items
    × AllZip (IsWireOf l.posts) l.yielded l.wires.items
    × AllZip IsReceiveOf l.yielded l.receives.items
    × All (IsReadyToReceive l.posts) l.receives.items
    × AllByRecursion IsUnused l.wires.items
