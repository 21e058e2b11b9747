use Rattle.std.proofs.Common.{rules, arith}
use Rattle.sup_crew.proofs.KeptLaws.{each_given}
use Rattle.sup_crew.proofs.team_threads.join_team.Goals as goal

pub returns : goal.returns
returns g c = (
  c.join-lead.ensures,
  each_given g.W.Work-2.gives _ (λ p r k. k) c.args.threads.others.items _ (search rules) (λ i d low. (c.in_ok-others.ensures.each i d (omega (arith, low, c.args.threads.others.ok))).1),
)
