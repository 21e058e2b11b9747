use Rattle.std.specs.Prelude.{Ok, refl, not}
use Rattle.std.proofs.Common.{sym, ap, ◌∙◌}
use Rattle.sup_tables.specs.Makers.{put_name}
use Rattle.sup_tables.specs.OneOperation.{next_at}
use Rattle.sup_local_sup.specs.declared.leaving.Leaving.TheVariants.{Nobody}
use Rattle.sup_replica.specs.declared.event.Event.TheVariants.{Register}
use Rattle.sup_replica.specs.declared.done.Reply.TheVariants.{Added}
use Rattle.sup_replica.specs.ByTables.{by_tables}
use Rattle.sup_replica.specs.Steps.{issues, up_step}
use Rattle.sup_node.proofs.StepLaws.{ready_same, passed, adds}
use Rattle.sup_node.proofs.replica.Replica.register.Goals as goal

pub returns-clause-ready : goal.returns-clause-ready
returns-clause-ready g c =
    let n = c.args.self.now in
    let w = g.W.Weigh.weight_of in
    ready_same w (up_step by_tables w n (Register c.args.name.now c.args.id.now) 0) (Ok (issues by_tables w n (Added c.in_ok-delta.dot) Nobody c.in_ok-delta.delta)) n c.issue.result
    (adds w n _ (put_name (next_at n.known n.name) c.args.name.now c.args.id.now) c.in_ok-delta.dot c.in_ok-delta.delta (passed _ _ _ _ (ap not (sym c.is_child.ensures ∙ c.if-not-is_child.false)) (passed _ _ _ _ (sym c.is_name.ensures ∙ c.if-is_name.false) (passed _ _ _ _ (sym c.is_full.ensures ∙ c.if-is_full.false) (passed _ _ _ _ (sym c.is_spent.ensures.value ∙ c.if-is_spent.false) refl)))) c.in_ok-delta.ensures.dot c.in_ok-delta.ensures.delta)
    c.issue.ensures.ready
