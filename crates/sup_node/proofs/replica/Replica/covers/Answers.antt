use Rattle.std.proofs.Common.{◌≡◌, sym, ◌∙◌, subst}
use Rattle.sup_tables.specs.States.{State}
use Rattle.sup_tables.specs.Joined.{join_states}
use Rattle.sup_tables.proofs.StateJoins.{covered_more}
use Rattle.sup_replica.specs.Nodes.{Node}
use Rattle.sup_node.proofs.replica.Replica.covers.Goals as goal

pub returns-clause-same : goal.returns-clause-same
returns-clause-same c e =
    subst (λ (m : Node State). join_states m.known c.args.delta.now ≡ m.known) c.self.view_is
    (covered_more c.self.inside.tables c.args.delta.now c.context.ensures.tables (sym c.leq.ensures.value ∙ e))
