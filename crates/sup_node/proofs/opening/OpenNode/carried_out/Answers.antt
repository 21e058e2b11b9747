use Rattle.sup_node.proofs.OpenedLaws.{grown, keeps_same}
use Rattle.sup_node.proofs.opening.OpenNode.carried_out.Goals as goal

pub invariant_of-result : goal.invariant_of-result
invariant_of-result g c =
    let old = c.requires.0 in
    let new = c.requires.1 in
    let is = c.requires.2 in
    record { keeps = keeps_same g.W.Weigh.weight_of new _ (grown c.args.self.state old new is.state _ (c.carried_out-state.ensures old.node.known new.node.known is.state.tables)) is.keeps }

pub returns-clause-node : goal.returns-clause-node
returns-clause-node g c = λ old new is. grown c.args.self.state old new is.state _ (c.carried_out-state.ensures old.node.known new.node.known is.state.tables)
