-- The code's world beside the model's.
use Rattle.sup_model.proofs.FollowLaws.{worlds_stand}
use Rattle.sup_model.proofs.laws.worlds_stand.Goals as goal

pub returns : goal.returns
returns c = worlds_stand
