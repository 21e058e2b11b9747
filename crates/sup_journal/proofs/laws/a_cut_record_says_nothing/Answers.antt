use Rattle.sup_journal.proofs.AppendLaws.{cut}
use Rattle.sup_journal.proofs.laws.a_cut_record_says_nothing.Goals as goal

pub returns : goal.returns
returns c = cut
