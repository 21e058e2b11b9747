-- What a contract sees of the code's node, and of where a name leads.
use Rattle.sup_tables.specs.States.{State}
use Rattle.sup_replica.specs.Stations.{Station}
use Rattle.sup_node.specs.declared.node.Node.{Node}
use Rattle.sup_node.specs.NodeStates.{station_in}
use Rattle.sup_node.specs.declared.whereis.Whereis.{Whereis}
use Rattle.sup_node.specs.declared.whereis.Whereis.TheVariants.{Unknown, Gone, Unplaced, On}
use Rattle.sup_node.specs.Whereabouts.{Where, unknown, gone, unplaced, on}

abbrev pub station_of : {W : Type 0} {g : _} → Node W g → Station State
station_of n = station_in n.state

abbrev pub where_told : Whereis → Where
where_told Unknown = unknown
where_told (Gone id) = gone id.now
where_told (Unplaced id) = unplaced id.now
where_told (On id member) = on id.now member
