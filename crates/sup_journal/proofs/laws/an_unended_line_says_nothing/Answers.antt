use Rattle.sup_journal.proofs.AppendLaws.{unended}
use Rattle.sup_journal.proofs.laws.an_unended_line_says_nothing.Goals as goal

pub returns : goal.returns
returns c = unended
