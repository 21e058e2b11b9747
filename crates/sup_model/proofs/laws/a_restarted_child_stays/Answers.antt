-- A child's next run.
use Rattle.sup_model.proofs.ArrivalLaws.{restarts_stay}
use Rattle.sup_model.proofs.laws.a_restarted_child_stays.Goals as goal

pub returns : goal.returns
returns c = restarts_stay
