use Rattle.std.specs.Prelude.{true, List, Err, IfSome}
use Rattle.std.proofs.Common.{sym, ap, ◌∙◌, subst}
use Rattle.std.specs.List.Sorted.{IsStrictlySortedBy}
use Rattle.sup_specs.specs.Values.{Bytes, text_cmp}
use Rattle.sup_tables.specs.States.{State}
use Rattle.sup_tables.specs.Joined.{join_states}
use Rattle.sup_tables.specs.Planned.{IsPlanFor}
use Rattle.sup_local_sup.specs.declared.change.Change.{Change}
use Rattle.sup_local_sup.specs.Keeping.{AreCounted}
use Rattle.sup_local_sup.specs.Changing.{AreChanges, news, now_of}
use Rattle.sup_replica.specs.declared.refusal.Refusal.TheVariants.{CountSpent}
use Rattle.sup_replica.specs.Nodes.{Node}
use Rattle.sup_node.specs.declared.change.Intake.TheVariants.{Touched}
use Rattle.sup_node.specs.Changes.{IsIntake, IsNoIntake, wanted_with}
use Rattle.sup_node.specs.Placed.{ListsLeaving}
use Rattle.sup_node.proofs.TouchLaws.{are_changes}
use Rattle.sup_node.proofs.IntakeLaws.{replaced_seen, touched_is, touched_spent}
use Rattle.sup_node.proofs.replica.Replica.touched_intake.Goals as goal

pub plan_change-requires-clause-changes : goal.plan_change-requires-clause-changes
plan_change-requires-clause-changes g c =
    let w = g.W.Weigh.weight_of in
    let n = c.args.self.now in
    let joined = join_states n.known c.args.delta.now in
    let made : IsPlanFor c.in-Some.plan c.self.inside.tables (join_states c.self.inside.tables c.args.delta.now) = subst (λ o. IfSome o (λ p. IsPlanFor p c.self.inside.tables (join_states c.self.inside.tables c.args.delta.now))) c.in-Some.is c.in_ok-plan.ensures.plan in
    let plan = subst (λ (m : Node State). IsPlanFor c.in-Some.plan m.known (join_states m.known c.args.delta.now)) c.self.view_is made in
    subst AreChanges (sym (c.deref-4.ensures.value ∙ c.in_ok-changes.ensures.changes joined plan))
    (are_changes w n.name c.deref-2.result.now joined.rows c.deref-3.result.now (subst (λ (ids : List Bytes). IsStrictlySortedBy text_cmp ids) (sym c.deref-3.ensures.value) c.in_ok-touched.ensures.rise))

pub plan_change-requires-clause-counted : goal.plan_change-requires-clause-counted
plan_change-requires-clause-counted g c =
    let n = c.args.self.now in
    let joined = join_states n.known c.args.delta.now in
    let made : IsPlanFor c.in-Some.plan c.self.inside.tables (join_states c.self.inside.tables c.args.delta.now) = subst (λ o. IfSome o (λ p. IsPlanFor p c.self.inside.tables (join_states c.self.inside.tables c.args.delta.now))) c.in-Some.is c.in_ok-plan.ensures.plan in
    let plan = subst (λ (m : Node State). IsPlanFor c.in-Some.plan m.known (join_states m.known c.args.delta.now)) c.self.view_is made in
    subst (λ (cs : List Change). AreCounted (news cs)) (sym c.deref-4.ensures.value) (c.in_ok-changes.ensures.counted joined plan)

pub returns-in-Ok-clause-intake : goal.returns-in-Ok-clause-intake
returns-in-Ok-clause-intake g c =
    let w = g.W.Weigh.weight_of in
    let n : Node State = record { name = c.self.inside.name; known = c.self.inside.tables; up = true; count = c.self.inside.count; supervisor = c.self.inside.supervisor; newest = c.self.inside.newest } in
    let leaving = c.args.leaving.now in
    let delta = c.args.delta.now in
    let joined = join_states n.known delta in
    let plan : IsPlanFor c.in-Some.plan n.known joined = subst (λ o. IfSome o (λ p. IsPlanFor p n.known joined)) c.in-Some.is c.in_ok-plan.ensures.plan in
    let ids = c.in_ok-touched.touched.children.items in
    let reach : ListsLeaving ids leaving = subst (λ (is : List Bytes). ListsLeaving is leaving) c.deref.ensures.value (c.reaches.ensures c.if-not-reaches.false) in
    let is = replaced_seen w n leaving delta ids reach (now_of c.ended.result) c.ended.ensures c.args.self.now c.self.view_is c.in-Some.plan plan c.in_ok-touched.ensures.rise
    (c.in_ok-touched.ensures.children joined plan) c.in_ok-touched.touched.members (c.in_ok-touched.ensures.members joined plan) c.if-touched.false c.deref-2.result.now c.deref-3.result.now
    (c.deref-2.ensures.value ∙ c.in_ok-hosts.ensures) c.deref-3.ensures.value c.deref-4.result.now (λ new p. c.deref-4.ensures.value ∙ c.in_ok-changes.ensures.changes new p) c.requires.keeps in
    subst (λ (m : Node State). IsIntake w m leaving delta (Touched c.in-Some.plan c.parted-kept.result.0) c.parted-kept.result.1) c.self.view_is
    (touched_is w n leaving delta ids reach (now_of c.ended.result) c.ended.ensures c.in-Some.plan c.in-Ok.kept c.parted-kept.result.0 c.parted-kept.result.1 plan
    (c.in-Ok.ensures.becomes (wanted_with w n delta) is) (c.in-Ok.ensures.effects (wanted_with w n delta) is) c.parted-kept.ensures.plan c.parted-kept.ensures.effects c.in-Ok.ensures.within)

pub returns-in-Err-CountSpent-clause-refused : goal.returns-in-Err-CountSpent-clause-refused
returns-in-Err-CountSpent-clause-refused g c =
    let w = g.W.Weigh.weight_of in
    let n : Node State = record { name = c.self.inside.name; known = c.self.inside.tables; up = true; count = c.self.inside.count; supervisor = c.self.inside.supervisor; newest = c.self.inside.newest } in
    let leaving = c.args.leaving.now in
    let delta = c.args.delta.now in
    let joined = join_states n.known delta in
    let plan : IsPlanFor c.in-Some.plan n.known joined = subst (λ o. IfSome o (λ p. IsPlanFor p n.known joined)) c.in-Some.is c.in_ok-plan.ensures.plan in
    let ids = c.in_ok-touched.touched.children.items in
    let reach : ListsLeaving ids leaving = subst (λ (is : List Bytes). ListsLeaving is leaving) c.deref.ensures.value (c.reaches.ensures c.if-not-reaches.false) in
    let is = replaced_seen w n leaving delta ids reach (now_of c.ended.result) c.ended.ensures c.args.self.now c.self.view_is c.in-Some.plan plan c.in_ok-touched.ensures.rise
    (c.in_ok-touched.ensures.children joined plan) c.in_ok-touched.touched.members (c.in_ok-touched.ensures.members joined plan) c.if-touched.false c.deref-2.result.now c.deref-3.result.now
    (c.deref-2.ensures.value ∙ c.in_ok-hosts.ensures) c.deref-3.ensures.value c.deref-4.result.now (λ new p. c.deref-4.ensures.value ∙ c.in_ok-changes.ensures.changes new p) c.requires.keeps in
    subst (λ (m : Node State). IsNoIntake w m leaving delta CountSpent) c.self.view_is
    (touched_spent w n leaving delta ids reach (now_of c.ended.result) c.ended.ensures c.deref-4.result.now is (c.in-Err-CountSpent.ensures.spent (ap Err c.in-Err-CountSpent.field-0-is)))
