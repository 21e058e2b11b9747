-- New worlds of code and model.
use Rattle.sup_model.proofs.FollowLaws.{new_stands}
use Rattle.sup_model.proofs.laws.new_worlds_stand.Goals as goal

pub returns : goal.returns
returns c = new_stands
