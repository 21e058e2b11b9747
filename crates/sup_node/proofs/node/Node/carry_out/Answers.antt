use Rattle.std.proofs.Common.{◌∙◌}
use Rattle.sup_node.specs.NodeStates.{station_in}
use Rattle.sup_node.proofs.OpenedLaws.{keeps_after, keeps_same}
use Rattle.sup_node.proofs.node.Node.carry_out.Goals as goal

pub carry_out-requires : goal.carry_out-requires
carry_out-requires g c = c.requires.2.ready.fits.0

pub invariant_of-self : goal.invariant_of-self
invariant_of-self g c = record { keeps = keeps_same g.W.Weigh.weight_of (station_in c.args.self.now.state) _ c.in_err-carry_out.ensures.err c.args.self.now.keeps }

pub invariant_of-self-then-matches : goal.invariant_of-self-then-matches
invariant_of-self-then-matches g c =
    record { keeps = keeps_after g.W.Weigh.weight_of (station_in c.args.self.now.state) _ c.args.planned.change (c.index_rows.ensures ∙ c.in_ok-carry_out.ensures.ok) c.requires.2.ready.fits.1 }

pub invariant_of-self-else-matches : goal.invariant_of-self-else-matches
invariant_of-self-else-matches g c =
    record { keeps = keeps_after g.W.Weigh.weight_of (station_in c.args.self.now.state) _ c.args.planned.change c.in_ok-carry_out.ensures.ok c.requires.2.ready.fits.1 }
