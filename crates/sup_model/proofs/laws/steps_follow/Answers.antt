-- The code's world beside the model's.
use Rattle.sup_model.proofs.FollowLaws.{steps_follow}
use Rattle.sup_model.proofs.laws.steps_follow.Goals as goal

pub returns : goal.returns
returns c = steps_follow
