-- The code's node that is opened for a change: what it was, and what it is to be.
use Rattle.std.specs.Prelude.{◌≡◌, true}
use Rattle.sup_tables.specs.States.{State}
use Rattle.sup_placement.specs.Place.{Weigher}
use Rattle.sup_replica.specs.declared.done.Done.{Done}
use Rattle.sup_replica.specs.Stations.{Station}
use Rattle.sup_node.specs.declared.opening.OpenNode.{OpenNode}
use Rattle.sup_node.specs.Openings.{IsOpenState}
use Rattle.sup_node.specs.Placed.{keeps_placed}

-- the node was the first and is to be the second, and keeps what is placed on it in both
pub record IsOpenNode {W : Type 0} (g : Weigher) (o : OpenNode W) (old new : Station State) : Type 0 where
  pub state : IsOpenState o.state old new
  pub kept : keeps_placed g old.node ≡ true
  pub keeps : keeps_placed g new.node ≡ true

-- the answer, once it is carried out
abbrev pub answer_of : {W : Type 0} → OpenNode W → Done
answer_of o = o.done
