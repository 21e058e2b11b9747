-- What a contract sees of the code's node, whatever its children are weighed by.
use Rattle.sup_tables.specs.States.{State}
use Rattle.sup_anti_entropy.specs.Contents.{buffer_of}
use Rattle.sup_replica.specs.Stations.{Station}
use Rattle.sup_node.specs.declared.state.NodeState.{NodeState}

abbrev pub station_in : NodeState → Station State
station_in s = record { node = s.replica; held = (buffer_of s.buffer).held; room = (buffer_of s.buffer).room; acked = (buffer_of s.buffer).acked }
