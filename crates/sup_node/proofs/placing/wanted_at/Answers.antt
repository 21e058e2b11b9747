use Rattle.std.proofs.Common.{sym, subst}
use Rattle.sup_local_sup.specs.Keeping.{IdsRise}
use Rattle.sup_replica.proofs.WantedLaws.{wanted_rises}
use Rattle.sup_node.proofs.placing.wanted_at.Goals as goal

pub returns-clause-rise : goal.returns-clause-rise
returns-clause-rise g c = subst IdsRise (sym c.in_ok-wanted.ensures.items) (wanted_rises g.W.Weigh.weight_of c.args.me.now c.args.tables.now.rows)
