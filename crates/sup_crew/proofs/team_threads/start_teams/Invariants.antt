use Rattle.std.proofs.Common.{◌≡◌, ◌++◌, All}
use Rattle.std.specs.List.{AllZip}
use Rattle.sup_crew.specs.Promises.{IsFor}
use Rattle.sup_crew.specs.Teams.{AllOfTeam, TeamZip}
use Rattle.sup_crew.proofs.team_threads.start_teams.Given as goal

abbrev pub invariant-loop-team : goal.invariant-loop-team
invariant-loop-team g l = (l.yielded ++ l.team-iterator.rest.items ≡ l.initial.team-iterator.rest.items) × All (AllOfTeam (g.W.Work-1.takes l.work) (g.W.Work-2.takes l.work)) l.team-iterator.rest.items × AllZip (TeamZip (IsFor l.work) (IsFor l.work)) l.yielded l.started.items
