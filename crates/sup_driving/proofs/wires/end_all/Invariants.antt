use Rattle.std.proofs.Common.{◌≡◌, ◌++◌}
use Rattle.std.specs.List.{AllZip}
use Rattle.sup_driving.specs.Wires.{IsEnded}
use Rattle.sup_driving.proofs.wires.end_all.Given as goal

abbrev pub invariant-loop-wire : goal.invariant-loop-wire
invariant-loop-wire g l = (l.yielded ++ l.wire-iterator.rest.items ≡ l.initial.wire-iterator.rest.items) × AllZip IsEnded l.yielded l.ended.items
