-- A child that stays wanted.
use Rattle.sup_model.proofs.GoingLaws.{acts_go_on, deliveries_go_on}
use Rattle.sup_model.proofs.laws.what_stays_wanted_goes_on.Goals as goal

pub returns : goal.returns
returns c = record { acts = acts_go_on; deliveries = deliveries_go_on }
