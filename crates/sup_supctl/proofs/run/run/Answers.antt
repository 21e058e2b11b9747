use Rattle.sup_supctl.proofs.CommandRunLaws.{all, clustered}
use Rattle.sup_supctl.proofs.run.run.Goals as goal

pub returns-in-Done : goal.returns-in-Done
returns-in-Done g c = all _ _ _ _ _ _ _ _ _ _ c.in-Done.ended c.in-Done.ensures.done

pub returns-in-Cluster : goal.returns-in-Cluster
returns-in-Cluster g c =
    let options = c.in-Cluster.options in
    let began = c.in-Cluster.ensures in
    clustered _ _ _ _ _ _ _ _ _ _ c.run_plain.new.reader c.run_plain.new.writer c.run_plain.new.errors options.weigh options.config c.run_options.result
    began.asked began.unread began.unwritten began.untold c.run_options.ensures.clusters c.run_options.ensures.taken
