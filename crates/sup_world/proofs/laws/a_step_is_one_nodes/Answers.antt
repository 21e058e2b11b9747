use Rattle.sup_world.proofs.StayLaws.{nodes_stay, messages_stay}
use Rattle.sup_world.proofs.laws.a_step_is_one_nodes.Goals as goal

pub returns : goal.returns
returns c = record { others = nodes_stay; messages = messages_stay }
