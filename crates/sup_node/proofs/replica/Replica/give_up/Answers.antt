use Rattle.std.specs.Prelude.{Ok}
use Rattle.std.proofs.Common.{sym, ◌∙◌}
use Rattle.sup_local_sup.specs.declared.leaving.Leaving.TheVariants as leaving
use Rattle.sup_local_sup.specs.declared.leaving.Ruling.TheVariants.{GiveUp}
use Rattle.sup_replica.specs.declared.done.Reply.TheVariants.{GaveUp}
use Rattle.sup_replica.specs.ByTables.{by_tables}
use Rattle.sup_replica.specs.Steps.{issues, exit_step}
use Rattle.sup_node.proofs.StepLaws.{ready_same}
use Rattle.sup_node.proofs.replica.Replica.give_up.Goals as goal

pub returns-clause-ready : goal.returns-clause-ready
returns-clause-ready g c =
    let n = c.args.self.now in
    let w = g.W.Weigh.weight_of in
    ready_same w (exit_step by_tables w n c.args.id.now 0 (GiveUp)) (Ok (issues by_tables w n (GaveUp c.new-removed.result) (leaving.GaveUp c.in_ok-copy.copy) c.in_ok-delta.delta)) n c.issue.result
    (λ i. Ok (issues by_tables w n (GaveUp (sym (c.new-removed.ensures ∙ c.in_ok-delta.ensures.dots) i)) (leaving.GaveUp (sym c.in_ok-copy.ensures i)) (sym c.in_ok-delta.ensures.delta i)))
    c.issue.ensures.ready
