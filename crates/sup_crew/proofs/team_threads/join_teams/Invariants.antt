use Rattle.std.proofs.Common.{◌≡◌, ◌++◌}
use Rattle.std.specs.List.{AllZip}
use Rattle.sup_crew.specs.Promises.{IsGivenAt}
use Rattle.sup_crew.specs.Teams.{TeamZip}
use Rattle.sup_crew.proofs.team_threads.join_teams.Given as goal

abbrev pub invariant-loop-threads : goal.invariant-loop-threads
invariant-loop-threads g l = (l.yielded ++ l.threads-iterator.rest.items ≡ l.initial.threads-iterator.rest.items) × AllZip (TeamZip (IsGivenAt g.W.Work-1.gives) (IsGivenAt g.W.Work-2.gives)) l.yielded l.all.items
