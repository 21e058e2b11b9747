use Rattle.std.specs.Prelude.{true, Err}
use Rattle.std.proofs.Common.{ap, ◌∙◌, subst}
use Rattle.sup_tables.specs.States.{State}
use Rattle.sup_replica.specs.declared.refusal.Refusal.TheVariants.{CountSpent}
use Rattle.sup_replica.specs.Nodes.{Node}
use Rattle.sup_node.specs.declared.change.Intake.TheVariants.{Whole}
use Rattle.sup_node.specs.Changes.{IsIntake, IsNoIntake}
use Rattle.sup_node.proofs.StepLaws.{whole_is, whole_spent}
use Rattle.sup_node.proofs.replica.Replica.whole_intake.Goals as goal

pub returns-in-Ok-clause-intake : goal.returns-in-Ok-clause-intake
returns-in-Ok-clause-intake g c =
    let w = g.W.Weigh.weight_of in
    let n : Node State = record { name = c.self.inside.name; known = c.self.inside.tables; up = true; count = c.self.inside.count; supervisor = c.self.inside.supervisor; newest = c.self.inside.newest } in
    subst (λ (m : Node State). IsIntake w m c.args.leaving.now c.args.delta.now (Whole c.index_rows.new.self c.parted-plan.result.0) c.parted-plan.result.1) c.self.view_is
    (whole_is w n c.args.leaving.now c.args.delta.now c.index_rows.new.self c.deref.result.now
    (c.index_rows.ensures ∙ c.in_ok-tables.ensures.state) (c.deref.ensures.value ∙ c.in_ok-wanted.ensures.items)
    c.in-Ok.plan c.parted-plan.result.0 c.parted-plan.result.1 c.in-Ok.ensures.plan c.parted-plan.ensures.plan c.parted-plan.ensures.effects c.in-Ok.ensures.within)

pub returns-in-Err-CountSpent-clause-refused : goal.returns-in-Err-CountSpent-clause-refused
returns-in-Err-CountSpent-clause-refused g c =
    let w = g.W.Weigh.weight_of in
    let n : Node State = record { name = c.self.inside.name; known = c.self.inside.tables; up = true; count = c.self.inside.count; supervisor = c.self.inside.supervisor; newest = c.self.inside.newest } in
    subst (λ (m : Node State). IsNoIntake w m c.args.leaving.now c.args.delta.now CountSpent) c.self.view_is
    (whole_spent w n c.args.leaving.now c.args.delta.now c.index_rows.new.self c.deref.result.now
    (c.index_rows.ensures ∙ c.in_ok-tables.ensures.state) (c.deref.ensures.value ∙ c.in_ok-wanted.ensures.items)
    (c.in-Err-CountSpent.ensures.spent (ap Err c.in-Err-CountSpent.field-0-is)))
