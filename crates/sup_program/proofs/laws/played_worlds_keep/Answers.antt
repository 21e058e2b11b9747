use Rattle.sup_program.proofs.PlayedRunLaws.{played_worlds_keep}
use Rattle.sup_program.proofs.laws.played_worlds_keep.Goals as goal

pub returns : goal.returns
returns c = played_worlds_keep
