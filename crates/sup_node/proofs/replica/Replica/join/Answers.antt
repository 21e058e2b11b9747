use Rattle.std.specs.Prelude.{Ok, refl}
use Rattle.std.proofs.Common.{sym, ◌∙◌}
use Rattle.sup_specs.specs.declared.child.Status.TheVariants.{Open}
use Rattle.sup_tables.specs.Makers.{put_member}
use Rattle.sup_tables.specs.OneOperation.{next_at}
use Rattle.sup_local_sup.specs.declared.leaving.Leaving.TheVariants.{Nobody}
use Rattle.sup_replica.specs.declared.event.Event.TheVariants.{Join}
use Rattle.sup_replica.specs.declared.done.Reply.TheVariants.{Added}
use Rattle.sup_replica.specs.ByTables.{by_tables}
use Rattle.sup_replica.specs.Steps.{issues, up_step}
use Rattle.sup_node.proofs.StepLaws.{ready_same, passed, adds}
use Rattle.sup_node.proofs.replica.Replica.join.Goals as goal

pub returns-clause-ready : goal.returns-clause-ready
returns-clause-ready g c =
    let n = c.args.self.now in
    let w = g.W.Weigh.weight_of in
    ready_same w (up_step by_tables w n (Join c.args.label.now) 0) (Ok (issues by_tables w n (Added c.in_ok-delta.dot) Nobody c.in_ok-delta.delta)) n c.issue.result
    (adds w n _ (put_member (next_at n.known n.name) n.name (record { label = c.args.label.now; status = Open })) c.in_ok-delta.dot c.in_ok-delta.delta (passed _ _ _ _ (sym c.is_joined.ensures ∙ c.if-is_joined.false) (passed _ _ _ _ (sym c.is_full.ensures ∙ c.if-is_full.false) (passed _ _ _ _ (sym c.is_spent.ensures.value ∙ c.if-is_spent.false) refl))) c.in_ok-delta.ensures.dot c.in_ok-delta.ensures.delta)
    c.issue.ensures.ready
