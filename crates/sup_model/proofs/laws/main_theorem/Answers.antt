-- The headline.
use Rattle.sup_model.proofs.MainLaws.{main}
use Rattle.sup_model.proofs.laws.main_theorem.Goals as goal

pub returns : goal.returns
returns c = main
