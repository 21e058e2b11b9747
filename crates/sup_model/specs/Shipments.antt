-- Why a shipment is enough (Almeida, Shoker, Baquero 2018, 6), as an equation of states.
use Rattle.std.specs.Prelude.{List}
use Rattle.sup_tables.specs.States.{State}
use Rattle.sup_anti_entropy.specs.Shipments.{joined_deltas, IsEnough}

-- a state that has all of a base gets from the deltas since then all of the state to which they lead
abbrev pub ShipmentIsEnough : Type 0
ShipmentIsEnough = (deltas : List State) (state : State) → IsEnough deltas state (joined_deltas deltas)
