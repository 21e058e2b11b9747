-- What a node of the code knows: the state of its tables (this project).
use Rattle.std.specs.Prelude.{List}
use Rattle.sup_tables.specs.Operations.{Operation}
use Rattle.sup_tables.specs.States.{State, StandsFor}
use Rattle.sup_tables.specs.Joined.{IsTables, no_state, join_states, covers_state}
use Rattle.sup_tables.specs.OneOperation.{state_of_one, counter_in}
use Rattle.sup_local_sup.specs.Supervising.{with_restart}
use Rattle.sup_replica.specs.Nodes.{Knowledge}

-- tables that stand for operations
pub record TablesStandFor (state : State) (ops : List Operation) : Type 0 where
  pub stands : StandsFor state ops
  pub tables : IsTables state

-- two together are joined, and the order of joins is what covers; a window holds the moments that decide
abbrev pub by_tables : Knowledge State
by_tables = record { rows = λ state. state.rows; counter = counter_in; covers = covers_state; with_more = join_states; of_one = state_of_one; nothing = no_state; restarts = with_restart }
