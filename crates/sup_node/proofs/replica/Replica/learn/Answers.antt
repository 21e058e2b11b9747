use Rattle.std.specs.Prelude.{◌+◌, ◌≤◌}
use Rattle.std.proofs.Common.{arith, subst}
use Rattle.sup_specs.specs.declared.limits.TheConstants.{MAX}
use Rattle.sup_tables.specs.States.{State}
use Rattle.sup_replica.specs.Nodes.{Node}
use Rattle.sup_node.proofs.StepLaws.{learned_ready}
use Rattle.sup_node.proofs.replica.Replica.learn.Goals as goal

pub returns-clause-ready : goal.returns-clause-ready
returns-clause-ready g c =
    learned_ready g.W.Weigh.weight_of c.args.self.now c.args.own c.args.reply c.args.leaving.now c.args.delta c.in_ok-intake.intake c.in_ok-intake.effects c.in_ok-intake.ensures.intake
    (subst (λ (m : Node State). m.count + 1 ≤ MAX) c.self.view_is (omega (arith, c.if-self-ge-MAX.false)))
    (subst (λ (m : Node State). m.supervisor.boot ≤ MAX) c.self.view_is c.self.inside.booted)
