use Rattle.std.proofs.Common.{sym, subst}
use Rattle.sup_replica.specs.declared.event.Event.{Event}
use Rattle.sup_node.specs.Contents.{station_of}
use Rattle.sup_node.specs.NodeSteps.{PlansEvent}
use Rattle.sup_node.proofs.node.Node.plan_with.Goals as goal

pub returns-in-Ship : goal.returns-in-Ship
returns-in-Ship g c =
    subst (λ (e : Event). PlansEvent g.W.Weigh.weight_of (station_of c.args.self.now) e c.args.now c.ship_with.result) (sym c.in-Ship.is) (c.ship_with.ensures g.W.Weigh.weight_of c.args.now c.args.self.now.keeps)
