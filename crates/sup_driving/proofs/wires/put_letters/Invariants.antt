use Rattle.std.proofs.Common.{◌≡◌, ◌++◌}
use Rattle.std.specs.List.{AllZip}
use Rattle.sup_driving.specs.Wires.{HavePut}
use Rattle.sup_driving.proofs.wires.put_letters.Given as goal

abbrev pub invariant-loop-letter : goal.invariant-loop-letter
invariant-loop-letter g l = (l.yielded ++ l.letter-iterator.rest.items ≡ l.initial.letter-iterator.rest.items) × AllZip (HavePut l.yielded) l.fn.wires l.wires
