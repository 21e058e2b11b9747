use Rattle.std.specs.Prelude.{refl}
use Rattle.std.proofs.Common.{sym, subst}
use Rattle.sup_replica.specs.declared.event.Event.TheVariants.{Join, Leave, Drain, Start, Delete, Replace, Register, Unregister, Exit}
use Rattle.sup_node.specs.NodeStates.{station_in}
use Rattle.sup_node.specs.NodeSteps.{PlansEvent}
use Rattle.sup_node.proofs.PlanLaws.{is_own}
use Rattle.sup_node.proofs.state.NodeState.plan.Goals as goal

pub returns-in-Join : goal.returns-in-Join
returns-in-Join g c = is_own g.W.Weigh.weight_of (station_in c.args.self.now) (Join c.in-Join.label) c.args.now c.args.self.now.runs (λ b. refl) tt (λ x. x) c.join.result c.join.ensures.ready c.join.ensures.own c.args.event.now c.in-Join.is c.planned.result c.planned.ensures

pub returns-in-Leave : goal.returns-in-Leave
returns-in-Leave g c = is_own g.W.Weigh.weight_of (station_in c.args.self.now) (Leave c.in-Leave.member) c.args.now c.args.self.now.runs (λ b. refl) tt (λ x. x) c.leave.result c.leave.ensures.ready c.leave.ensures.own c.args.event.now c.in-Leave.is c.planned-in-Leave.result c.planned-in-Leave.ensures

pub returns-in-Drain : goal.returns-in-Drain
returns-in-Drain g c = is_own g.W.Weigh.weight_of (station_in c.args.self.now) (Drain c.in-Drain.member) c.args.now c.args.self.now.runs (λ b. refl) tt (λ x. x) c.drain.result c.drain.ensures.ready c.drain.ensures.own c.args.event.now c.in-Drain.is c.planned-in-Drain.result c.planned-in-Drain.ensures

pub returns-in-Start : goal.returns-in-Start
returns-in-Start g c = is_own g.W.Weigh.weight_of (station_in c.args.self.now) (Start c.in-Start.id c.in-Start.spec) c.args.now c.args.self.now.runs (λ b. refl) tt (λ x. x) c.start.result c.start.ensures.ready c.start.ensures.own c.args.event.now c.in-Start.is c.planned-in-Start.result c.planned-in-Start.ensures

pub returns-in-Delete : goal.returns-in-Delete
returns-in-Delete g c = is_own g.W.Weigh.weight_of (station_in c.args.self.now) (Delete c.in-Delete.id) c.args.now c.args.self.now.runs (λ b. refl) tt (λ x. x) c.delete.result c.delete.ensures.ready c.delete.ensures.own c.args.event.now c.in-Delete.is c.planned-in-Delete.result c.planned-in-Delete.ensures

pub returns-in-Replace : goal.returns-in-Replace
returns-in-Replace g c = is_own g.W.Weigh.weight_of (station_in c.args.self.now) (Replace c.in-Replace.id c.in-Replace.spec) c.args.now c.args.self.now.runs (λ b. refl) tt (λ x. x) c.replace.result c.replace.ensures.ready c.replace.ensures.own c.args.event.now c.in-Replace.is c.planned-in-Replace.result c.planned-in-Replace.ensures

pub returns-in-Register : goal.returns-in-Register
returns-in-Register g c = is_own g.W.Weigh.weight_of (station_in c.args.self.now) (Register c.in-Register.name c.in-Register.id) c.args.now c.args.self.now.runs (λ b. refl) tt (λ x. x) c.register.result c.register.ensures.ready c.register.ensures.own c.args.event.now c.in-Register.is c.planned-in-Register.result c.planned-in-Register.ensures

pub returns-in-Unregister : goal.returns-in-Unregister
returns-in-Unregister g c = is_own g.W.Weigh.weight_of (station_in c.args.self.now) (Unregister c.in-Unregister.name) c.args.now c.args.self.now.runs (λ b. refl) tt (λ x. x) c.unregister.result c.unregister.ensures.ready c.unregister.ensures.own c.args.event.now c.in-Unregister.is c.planned-in-Unregister.result c.planned-in-Unregister.ensures

pub returns-in-Exit : goal.returns-in-Exit
returns-in-Exit g c = is_own g.W.Weigh.weight_of (station_in c.args.self.now) (Exit c.in-Exit.id c.in-Exit.inc c.in-Exit.reason) c.args.now c.args.self.now.runs (λ b. refl) tt (λ x. x) c.exit.result c.exit.ensures.ready c.exit.ensures.own c.args.event.now c.in-Exit.is c.planned-in-Exit.result c.planned-in-Exit.ensures

pub returns-in-Ship : goal.returns-in-Ship
returns-in-Ship g c = subst (λ e. PlansEvent g.W.Weigh.weight_of (station_in c.args.self.now) e c.args.now c.ship.result) (sym c.in-Ship.is) (c.ship.ensures g.W.Weigh.weight_of c.args.now c.requires)

pub returns-in-Push : goal.returns-in-Push
returns-in-Push g c = subst (λ e. PlansEvent g.W.Weigh.weight_of (station_in c.args.self.now) e c.args.now c.push.result) (sym c.in-Push.is) (c.push.ensures g.W.Weigh.weight_of c.args.now c.requires)

pub returns-in-Deliver : goal.returns-in-Deliver
returns-in-Deliver g c = subst (λ e. PlansEvent g.W.Weigh.weight_of (station_in c.args.self.now) e c.args.now c.deliver.result) (sym c.in-Deliver.is) (c.deliver.ensures c.args.now)
