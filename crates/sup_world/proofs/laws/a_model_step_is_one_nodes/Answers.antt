use Rattle.sup_world.proofs.ModelStayLaws.{model_nodes_stay, model_messages_stay}
use Rattle.sup_world.proofs.laws.a_model_step_is_one_nodes.Goals as goal

pub returns : goal.returns
returns c = record { others = model_nodes_stay; messages = model_messages_stay }
