use Rattle.std.specs.Prelude.{Ok, refl, not}
use Rattle.std.proofs.Common.{sym, ap, ◌∙◌}
use Rattle.sup_tables.specs.Makers.{drop_child}
use Rattle.sup_local_sup.specs.declared.leaving.Leaving.TheVariants.{Nobody}
use Rattle.sup_replica.specs.declared.event.Event.TheVariants.{Delete}
use Rattle.sup_replica.specs.declared.done.Reply.TheVariants.{Removed}
use Rattle.sup_replica.specs.ByTables.{by_tables}
use Rattle.sup_replica.specs.Steps.{issues, up_step}
use Rattle.sup_node.proofs.StepLaws.{ready_same, passed, drops}
use Rattle.sup_node.proofs.replica.Replica.delete.Goals as goal

pub returns-clause-ready : goal.returns-clause-ready
returns-clause-ready g c =
    let n = c.args.self.now in
    let w = g.W.Weigh.weight_of in
    ready_same w (up_step by_tables w n (Delete c.args.id.now) 0) (Ok (issues by_tables w n (Removed c.new-removed.result) Nobody c.in_ok-delta.delta)) n c.issue.result
    (drops w n _ (drop_child n.known.rows c.args.id.now) c.new-removed.result c.in_ok-delta.delta (passed _ _ _ _ (ap not (sym c.is_child.ensures ∙ c.if-not-is_child.false)) refl) (c.new-removed.ensures ∙ c.in_ok-delta.ensures.dots) c.in_ok-delta.ensures.delta)
    c.issue.ensures.ready
