use Rattle.std.proofs.Common.{◌≡◌, ◌++◌, map, take}
use Rattle.std.specs.List.{AllZip}
use Rattle.sup_posts.specs.declared.jobs.Drive.{Drive}
use Rattle.sup_posts.specs.Drives.{IsDriveOf, places}
use Rattle.sup_run_ends.proofs.drives.make_drives.Given as goal

abbrev pub invariant-loop-at : goal.invariant-loop-at
invariant-loop-at g l =
    AllZip (IsDriveOf l.plan l.posts) (take l.at l.posts) l.drives.items
    × (map (λ (d : Drive g.row.W.Denot g.W.Weigh). d.at) l.drives.items ≡ places l.at)
    × (map (λ (d : Drive g.row.W.Denot g.W.Weigh). d.seat) l.drives.items ++ l.seats.rest.items ≡ l.initial.seats.rest.items)
    × (map (λ (d : Drive g.row.W.Denot g.W.Weigh). d.lanes) l.drives.items ++ l.rows.rest.items ≡ l.initial.rows.rest.items)
