-- A shipment by what the deltas in it join to.
use Rattle.sup_anti_entropy.proofs.BufferLaws.{joined_is_enough}
use Rattle.sup_model.proofs.laws.a_shipment_is_enough.Goals as goal

pub returns : goal.returns
returns c = joined_is_enough
