-- The code's world beside the model's.
use Rattle.sup_model.proofs.FollowLaws.{runs_follow}
use Rattle.sup_model.proofs.laws.runs_follow.Goals as goal

pub returns : goal.returns
returns c = runs_follow
