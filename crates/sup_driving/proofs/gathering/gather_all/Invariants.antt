use Rattle.std.proofs.Common.{◌≡◌, ◌++◌, All}
use Rattle.std.specs.List.{AllZip}
use Rattle.sup_driving.specs.GatheredResults.{CanGather, GathersTeam}
use Rattle.sup_driving.proofs.gathering.gather_all.Given as goal

abbrev pub invariant-loop-team : goal.invariant-loop-team
invariant-loop-team g l =
    (l.yielded ++ l.team-iterator.rest.items ≡ l.initial.team-iterator.rest.items)
    × All CanGather l.team-iterator.rest.items
    × AllZip GathersTeam l.yielded l.results.items
