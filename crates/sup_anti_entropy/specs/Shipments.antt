-- Why a shipment is enough: Almeida, Shoker, Baquero 2018, 6 (what has the state from before the deltas gets from the deltas all that is known).
use Rattle.std.specs.Prelude.{◌≡◌, true, List, [], ◌∷◌}
use Rattle.sup_tables.specs.States.{State}
use Rattle.sup_tables.specs.Joined.{IsTables, no_state, join_states, covers_state}
use Rattle.sup_anti_entropy.specs.Joins.{joined}

-- the deltas joined, oldest first
abbrev pub joined_deltas : List State → State
joined_deltas deltas = joined join_states no_state deltas

-- one after another taken into what is there
abbrev pub taken_in : State → List State → State
taken_in s [] = s
taken_in s (d ∷ ds) = taken_in (join_states s d) ds

-- where the deltas lead to the state from some base, all that has the base gets from what is sent as much as from the state
abbrev pub IsEnough : List State → State → State → Type 0
IsEnough deltas state sent =
    (base above : State) → state ≡ taken_in base deltas → IsTables base → IsTables above → covers_state above base ≡ true
    → join_states above sent ≡ join_states above state
