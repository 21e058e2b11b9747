use Rattle.sup_journal.proofs.AppendLaws.{plain}
use Rattle.sup_journal.proofs.laws.an_image_is_its_file.Goals as goal

pub returns : goal.returns
returns c = plain
