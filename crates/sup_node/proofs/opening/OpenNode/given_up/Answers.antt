use Rattle.sup_node.proofs.OpenedLaws.{given_back, keeps_same}
use Rattle.sup_node.proofs.opening.OpenNode.given_up.Goals as goal

pub invariant_of-result : goal.invariant_of-result
invariant_of-result g c =
    let old = c.requires.0 in
    let new = c.requires.1 in
    let is = c.requires.2 in
    record { keeps = keeps_same g.W.Weigh.weight_of old _ (given_back c.args.self.state old new is.state _ (c.given_up-state.ensures old.node.known new.node.known is.state.tables)) is.kept }

pub returns : goal.returns
returns g c = λ old new is. given_back c.args.self.state old new is.state _ (c.given_up-state.ensures old.node.known new.node.known is.state.tables)
