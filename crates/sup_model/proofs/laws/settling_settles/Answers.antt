-- Settling of the model's world.
use Rattle.sup_model.proofs.FollowLaws.{settling_settles}
use Rattle.sup_model.proofs.laws.settling_settles.Goals as goal

pub returns : goal.returns
returns c = settling_settles
