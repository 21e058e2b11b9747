use Rattle.std.proofs.Common.{◌≡◌, ◌++◌, All}
use Rattle.std.specs.List.{AllZip}
use Rattle.sup_posts.specs.Jobs.{MayTakeDrive}
use Rattle.sup_driving.specs.Teams.{IsTeamOf, IsReady}
use Rattle.sup_driving.proofs.teams.split_all.Given as goal

abbrev pub invariant-loop-drive : goal.invariant-loop-drive
invariant-loop-drive g l =
    (l.yielded ++ l.drive-iterator.rest.items ≡ l.initial.drive-iterator.rest.items)
    × All (MayTakeDrive l.posts) l.drive-iterator.rest.items
    × AllZip (IsTeamOf l.posts) l.yielded l.teams.items
    × All (IsReady l.posts) l.teams.items
