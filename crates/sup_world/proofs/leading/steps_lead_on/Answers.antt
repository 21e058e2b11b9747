-- A run that leads on.
use Rattle.sup_world.proofs.ReachedWorldLaws.{leads_on}
use Rattle.sup_world.proofs.leading.steps_lead_on.Goals as goal

pub returns : goal.returns
returns c = leads_on
