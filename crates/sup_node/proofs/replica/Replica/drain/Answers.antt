use Rattle.std.specs.Prelude.{◌≡◌, true, Ok, refl, not}
use Rattle.std.proofs.Common.{sym, ap, ◌∙◌}
use Rattle.sup_tables.specs.Rows.{members}
use Rattle.sup_tables.specs.Readers.{is_present}
use Rattle.sup_tables.specs.Makers.{drain_member}
use Rattle.sup_tables.specs.OneOperation.{next_at}
use Rattle.sup_local_sup.specs.declared.leaving.Leaving.TheVariants.{Nobody}
use Rattle.sup_replica.specs.declared.event.Event.TheVariants.{Drain}
use Rattle.sup_replica.specs.declared.done.Reply.TheVariants.{Replaced}
use Rattle.sup_replica.specs.ByTables.{by_tables}
use Rattle.sup_replica.specs.Steps.{issues, up_step}
use Rattle.sup_node.proofs.StepLaws.{ready_same, passed, replaces, drained_dots}
use Rattle.sup_node.proofs.replica.Replica.drain.Goals as goal

pub returns-clause-ready : goal.returns-clause-ready
returns-clause-ready g c =
    let n = c.args.self.now in
    let w = g.W.Weigh.weight_of in
    let there : is_present n.known.rows members c.args.m.now ≡ true = sym c.is_member.ensures ∙ c.if-not-is_member.false in
    ready_same w (up_step by_tables w n (Drain c.args.m.now) 0) (Ok (issues by_tables w n (Replaced c.in_ok-delta.dot c.new-named.result) Nobody c.in_ok-delta.delta)) n c.issue.result
    (replaces w n _ (drain_member n.known.rows (next_at n.known n.name) c.args.m.now) c.in_ok-delta.dot c.new-named.result c.in_ok-delta.delta (passed _ _ _ _ (ap not there) (passed _ _ _ _ (sym c.is_draining.ensures ∙ c.if-is_draining.false) (passed _ _ _ _ (sym c.is_spent.ensures.value ∙ c.if-is_spent.false) refl))) c.in_ok-delta.ensures.dot (c.new-named.ensures ∙ c.in_ok-delta.ensures.dots ∙ sym (drained_dots n.known.rows (next_at n.known n.name) c.args.m.now there)) c.in_ok-delta.ensures.delta)
    c.issue.ensures.ready
