use Rattle.std.proofs.Common.{◌≡◌, ◌++◌, All}
use Rattle.std.specs.Prelude.{IsOk}
use Rattle.sup_run_ends.specs.Steps.{AreTakenApart}
use Rattle.sup_run_ends.proofs.joining.part_all.Given as goal

abbrev pub invariant-loop-ended : goal.invariant-loop-ended
invariant-loop-ended g l =
    (l.yielded ++ l.ended-iterator.rest.items ≡ l.initial.ended-iterator.rest.items)
    × All IsOk l.ended-iterator.rest.items
    × AreTakenApart l.yielded l.seats.items l.arrived.items
