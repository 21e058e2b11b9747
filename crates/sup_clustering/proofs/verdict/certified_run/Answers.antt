use Rattle.sup_clustering.proofs.JudgedHistoryLaws.{refused_as}
use Rattle.sup_clustering.proofs.verdict.certified_run.Goals as goal

pub returns-clause-refused : goal.returns-clause-refused
returns-clause-refused g c =
    refused_as g.G.Weigh.weight_of c.args.plan.now c.args.histories.now c.certify.result c.judged_as.result c.judged_as.ensures.run c.judged_as.ensures.fault c.certify.ensures.fault c.certify.ensures.complete
