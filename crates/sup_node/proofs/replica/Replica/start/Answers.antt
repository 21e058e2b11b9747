use Rattle.std.specs.Prelude.{Ok, refl}
use Rattle.std.proofs.Common.{sym, ◌∙◌}
use Rattle.sup_tables.specs.Makers.{put_child}
use Rattle.sup_tables.specs.OneOperation.{next_at}
use Rattle.sup_local_sup.specs.declared.leaving.Leaving.TheVariants.{Nobody}
use Rattle.sup_replica.specs.declared.event.Event.TheVariants.{Start}
use Rattle.sup_replica.specs.declared.done.Reply.TheVariants.{Added}
use Rattle.sup_replica.specs.ByTables.{by_tables}
use Rattle.sup_replica.specs.Steps.{issues, up_step}
use Rattle.sup_node.proofs.StepLaws.{ready_same, passed, adds}
use Rattle.sup_node.proofs.replica.Replica.start.Goals as goal

pub returns-clause-ready : goal.returns-clause-ready
returns-clause-ready g c =
    let n = c.args.self.now in
    let w = g.W.Weigh.weight_of in
    ready_same w (up_step by_tables w n (Start c.args.id.now c.args.spec.now) 0) (Ok (issues by_tables w n (Added c.in_ok-delta.dot) Nobody c.in_ok-delta.delta)) n c.issue.result
    (adds w n _ (put_child (next_at n.known n.name) c.args.id.now c.args.spec.now) c.in_ok-delta.dot c.in_ok-delta.delta (passed _ _ _ _ (sym c.is_child.ensures ∙ c.if-is_child.false) (passed _ _ _ _ (sym c.is_full.ensures ∙ c.if-is_full.false) (passed _ _ _ _ (sym c.is_spent.ensures.value ∙ c.if-is_spent.false) refl))) c.in_ok-delta.ensures.dot c.in_ok-delta.ensures.delta)
    c.issue.ensures.ready
