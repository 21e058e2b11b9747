use Rattle.std.proofs.Common.{ap, subst, sym}
use Rattle.sup_node_gate.specs.declared.bound.TheConstants.{MAX_BOUND}
use Rattle.sup_clustering.specs.CertifiedPlans.{IsRefused}
use Rattle.sup_clustering.specs.ClusterRuns.{all_start}
use Rattle.sup_clustering.proofs.JudgedHistoryLaws.{no_bad_plan, refused_untold}
use Rattle.sup_clustering.proofs.cluster.certified_text.Goals as goal

pub fault-requires : goal.fault-requires
fault-requires g c = no_bad_plan g.G.Weigh.weight_of all_start c.in-Ok.planned.bound c.in-Ok.planned.plan c.in-Ok.planned c.in-Err.untold c.in-Err.ensures.untold

pub returns-clause-refused : goal.returns-clause-refused
returns-clause-refused g c =
    subst (IsRefused g.G.Weigh.weight_of all_start MAX_BOUND c.args.plan.now) (sym c.fault.ensures)
    (refused_untold g.G.Weigh.weight_of all_start MAX_BOUND c.args.plan.now c.in-Ok.planned c.in-Err.untold (ap (λ p. p.bound) c.in-Ok.ensures.planned) (ap (λ p. p.plan) c.in-Ok.ensures.planned) c.requires c.in-Err.ensures.untold)
