-- What runs before memory is taken.
use Rattle.sup_model.proofs.MemoryLaws.{stops_are_answered, first_checks_come_first}
use Rattle.sup_model.proofs.laws.memory_is_wanted_late.Goals as goal

pub returns : goal.returns
returns c = record { stop = stops_are_answered; first = first_checks_come_first }
