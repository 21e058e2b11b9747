use Rattle.std.specs.Prelude.{Ok}
use Rattle.std.proofs.Common.{sym}
use Rattle.sup_local_sup.specs.declared.leaving.Leaving.TheVariants as leaving
use Rattle.sup_local_sup.specs.declared.leaving.Ruling.TheVariants.{Finish}
use Rattle.sup_replica.specs.declared.done.Reply.TheVariants.{Finished}
use Rattle.sup_replica.specs.ByTables.{by_tables}
use Rattle.sup_replica.specs.Steps.{issues, exit_step}
use Rattle.sup_node.proofs.StepLaws.{ready_same}
use Rattle.sup_node.proofs.replica.Replica.finish.Goals as goal

pub returns-clause-ready : goal.returns-clause-ready
returns-clause-ready g c =
    let n = c.args.self.now in
    let w = g.W.Weigh.weight_of in
    ready_same w (exit_step by_tables w n c.args.id.now 0 (Finish c.args.dot.now)) (Ok (issues by_tables w n (Finished c.args.dot.now) (leaving.Finished c.in_ok-copy.copy) c.in_ok-delta.delta)) n c.issue.result
    (λ i. Ok (issues by_tables w n (Finished c.args.dot.now) (leaving.Finished (sym c.in_ok-copy.ensures i)) (sym c.in_ok-delta.ensures i)))
    c.issue.ensures.ready
