use Rattle.std.proofs.Common.{string_bytes, subst}
use Rattle.std.specs.Prelude.{IfErr, IfOk}
use Rattle.sup_plan.specs.declared.plan.Plan.{Plan}
use Rattle.sup_cluster.specs.Ran.{IsRanBy}
use Rattle.sup_clustering.specs.CertifiedPlans.{IsUntoldOf}
use Rattle.sup_clustering.specs.Verdicts.{PrintsRun}
use Rattle.sup_clustering.proofs.JudgedHistoryLaws.{given_ended, so_told, untold_ended}
use Rattle.sup_clustering.proofs.certified.plan_text.Goals as goal

pub returns-clause-prints : goal.returns-clause-prints
returns-clause-prints g c = subst (λ (p : Plan). IfOk c.ended_text.result (λ told. PrintsRun g.G.Weigh.weight_of p told.histories.histories (string_bytes told.text))) c.plan-plan.ensures c.ended_text.ensures.prints

pub returns-clause-given : goal.returns-clause-given
returns-clause-given g c =
    given_ended g.G.Weigh.weight_of (g.N.Runner.did c.args.planned.runner) c.args.planned.bound c.args.planned.plan (λ ran. ran.histories) (λ told. told.histories) c.run-ended.result c.ended_text.result
    c.run-ended.ensures.run c.run-ended.ensures.bound c.ended_text.ensures.these

pub returns-clause-ran_by : goal.returns-clause-ran_by
returns-clause-ran_by g c = so_told (IsRanBy c.args.planned) (λ told. told.histories) c.run-ended.result c.ended_text.result c.run-ended.ensures.ran_by c.ended_text.ensures.these

pub returns-clause-untold : goal.returns-clause-untold
returns-clause-untold g c =
    untold_ended g.G.Weigh.weight_of (g.N.Runner.did c.args.planned.runner) c.args.planned.bound c.args.planned.plan c.args.planned c.run-ended.result c.ended_text.result c.run-ended.ensures.good c.run-ended.ensures.run c.run-ended.ensures.bound
    c.run-ended.ensures.ran_by (subst (λ (p : Plan). IfErr c.ended_text.result (IsUntoldOf g.G.Weigh.weight_of p c.run-ended.result)) c.plan-plan.ensures c.ended_text.ensures.untold)
