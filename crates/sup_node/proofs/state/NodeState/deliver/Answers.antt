use Rattle.std.proofs.Common.{subst}
use Rattle.sup_wire.specs.Drafts.{IsDraftOf}
use Rattle.sup_wire.specs.Faults.{TextSays}
use Rattle.sup_node.specs.NodeStates.{station_in}
use Rattle.sup_node.proofs.PlanLaws.{takes-plans}
use Rattle.sup_node.proofs.state.NodeState.deliver.Goals as goal

pub returns-in-Ok : goal.returns-in-Ok
returns-in-Ok g c = λ now. takes-plans g.W.Weigh.weight_of (station_in c.args.self.now) now c.args.self.now.runs c.args.bytes.now c.in-Ok.message c.in-Ok.ensures.whole
    (subst (λ bytes. TextSays IsDraftOf bytes c.in-Ok.message) c.as_slice.ensures c.in-Ok.ensures.ok) c.take.result c.take.ensures
