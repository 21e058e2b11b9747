use Rattle.std.proofs.Common.{◌≡◌, ◌++◌, map}
use Rattle.sup_local_sup.specs.Keeping.{stop}
use Rattle.sup_local_sup.specs.Changing.{under}
use Rattle.sup_local_sup.proofs.remaining.push_stops.Given as goal

abbrev pub invariant-loop-id : goal.invariant-loop-id
invariant-loop-id l = l.stops.items ++ map stop (under l.id-iterator l.ids) ≡ l.fn.stops.items ++ map stop (under l.kept l.ids)
