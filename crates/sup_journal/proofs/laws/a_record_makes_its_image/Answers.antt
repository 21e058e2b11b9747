use Rattle.sup_journal.proofs.AppendLaws.{grown}
use Rattle.sup_journal.proofs.laws.a_record_makes_its_image.Goals as goal

pub returns : goal.returns
returns c = grown
