use Rattle.std.proofs.Common.{◌≡◌, ℕ, ◌++◌, map, All}
use Rattle.sup_posts.specs.Jobs.{Seat, IsSeatAt, IsLane}
use Rattle.sup_posts.specs.Drives.{LeadsToItsNode, of_lane}
use Rattle.sup_run_ends.proofs.drives.make_lanes.Given as goal

abbrev pub invariant-loop-dealt : goal.invariant-loop-dealt
invariant-loop-dealt g l =
    (l.yielded ++ l.dealt-iterator.rest.items ≡ l.initial.dealt-iterator.rest.items)
    × All (λ (d : ℕ × Seat g.row.W.Denot g.W.Weigh). IsSeatAt l.posts d.0 d.1) l.dealt-iterator.rest.items
    × All (IsLane l.posts) l.lanes.items
    × (map of_lane l.lanes.items ≡ l.yielded)
    × All (LeadsToItsNode l.plan.scripts.items l.from l.posts) l.lanes.items
