use Rattle.sup_cluster_lines.specs.Scripts.{asked_in}
use Rattle.sup_cluster_texts.proofs.ReadPlanLaws.{read_plans_run}
use Rattle.sup_cluster_texts.proofs.plan.read_plan.Goals as goal

pub returns-in-Ok-clause-runs : goal.returns-in-Ok-clause-runs
returns-in-Ok-clause-runs c =
    let script = c.in-Ok.script in
    read_plans_run c.args.config c.args.input.now (script.nodes.items, asked_in script) c.plan_of.result c.in-Ok.ensures c.plan_of.ensures
