use Rattle.std.specs.Prelude.{Ok, refl, not}
use Rattle.std.proofs.Common.{sym, ap, ◌∙◌}
use Rattle.sup_tables.specs.Makers.{replace_child}
use Rattle.sup_tables.specs.OneOperation.{next_at}
use Rattle.sup_local_sup.specs.declared.leaving.Leaving.TheVariants.{Nobody}
use Rattle.sup_replica.specs.declared.event.Event.TheVariants.{Replace}
use Rattle.sup_replica.specs.declared.done.Reply.TheVariants.{Replaced}
use Rattle.sup_replica.specs.ByTables.{by_tables}
use Rattle.sup_replica.specs.Steps.{issues, up_step}
use Rattle.sup_node.proofs.StepLaws.{ready_same, passed, replaces}
use Rattle.sup_node.proofs.replica.Replica.replace.Goals as goal

pub returns-clause-ready : goal.returns-clause-ready
returns-clause-ready g c =
    let n = c.args.self.now in
    let w = g.W.Weigh.weight_of in
    ready_same w (up_step by_tables w n (Replace c.args.id.now c.args.spec.now) 0) (Ok (issues by_tables w n (Replaced c.in_ok-delta.dot c.new-removed.result) Nobody c.in_ok-delta.delta)) n c.issue.result
    (replaces w n _ (replace_child n.known.rows (next_at n.known n.name) c.args.id.now c.args.spec.now) c.in_ok-delta.dot c.new-removed.result c.in_ok-delta.delta (passed _ _ _ _ (ap not (sym c.is_child.ensures ∙ c.if-not-is_child.false)) (passed _ _ _ _ (sym c.is_spent.ensures.value ∙ c.if-is_spent.false) refl)) c.in_ok-delta.ensures.dot (c.new-removed.ensures ∙ c.in_ok-delta.ensures.dots) c.in_ok-delta.ensures.delta)
    c.issue.ensures.ready
