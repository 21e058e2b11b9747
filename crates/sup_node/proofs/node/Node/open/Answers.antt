use Rattle.std.specs.Prelude.{refl}
use Rattle.std.proofs.Common.{sym, subst}
use Rattle.sup_node.specs.declared.change.Change.{Change}
use Rattle.sup_node.specs.Changes.{station_after}
use Rattle.sup_node.specs.NodeStates.{station_in}
use Rattle.sup_node.specs.Openings.{IsOpenState}
use Rattle.sup_node.proofs.OpenedLaws.{keeps_after, keeps_same}
use Rattle.sup_node.proofs.node.Node.open.Goals as goal

pub invariant_of-result : goal.invariant_of-result
invariant_of-result g c = record { keeps = keeps_same g.W.Weigh.weight_of (station_in c.args.self.state) _ c.in-Err.ensures.err c.args.self.keeps }

pub returns-in-Ok-clause-open : goal.returns-in-Ok-clause-open
returns-in-Ok-clause-open g c =
    let s = station_in c.args.self.state in
    record {
      state = subst (λ (change : Change). IsOpenState c.in-Ok.state s (station_after s change)) (sym c.in-Learns.is) c.in-Ok.ensures.open;
      kept = c.args.self.keeps;
      keeps = keeps_after g.W.Weigh.weight_of s (station_after s c.args.planned.change) c.args.planned.change refl c.requires.plan.2.ready.fits.1;
    }
