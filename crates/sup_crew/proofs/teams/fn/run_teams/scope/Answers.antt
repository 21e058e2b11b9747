use Rattle.std.specs.List.{AllZip}
use Rattle.std.proofs.lemmas.Result.{IfOk-weaker}
use Rattle.sup_crew.specs.Promises.{IsGivenAt}
use Rattle.sup_crew.specs.Teams.{TeamZip}
use Rattle.sup_crew.proofs.KeptLaws.{given_for_teams}
use Rattle.sup_crew.proofs.teams.fn.run_teams.scope.Goals as goal

pub returns : goal.returns
returns g c = IfOk-weaker c.join_teams.result
    (λ v. AllZip (TeamZip (IsGivenAt g.W.Work-1.gives) (IsGivenAt g.W.Work-2.gives)) c.in_ok-started.started.items v.items)
    (λ v. AllZip (TeamZip (g.W.Work-1.gives c.captures.work.now) (g.W.Work-2.gives c.captures.work.now)) c.captures.teams.items v.items)
    (λ v given. given_for_teams g.W.Work-1.gives g.W.Work-2.gives c.captures.work.now c.captures.teams.items c.in_ok-started.started.items v.items c.in_ok-started.ensures given)
    c.join_teams.ensures
