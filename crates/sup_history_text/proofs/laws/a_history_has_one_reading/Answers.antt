use Rattle.sup_history_text.proofs.ReadingLaws.{one_reading}
use Rattle.sup_history_text.proofs.laws.a_history_has_one_reading.Goals as goal

pub returns : goal.returns
returns c = one_reading
