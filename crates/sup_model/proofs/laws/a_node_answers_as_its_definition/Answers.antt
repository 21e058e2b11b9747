-- One node, over tables and over operations.
use Rattle.sup_model.proofs.NodeLaws.{acts, deliveries}
use Rattle.sup_model.proofs.laws.a_node_answers_as_its_definition.Goals as goal

pub returns : goal.returns
returns c = record { acts = acts; deliveries = deliveries }
