-- One node (this project). What it knows of the tables is a K: in the model the operations that it absorbed, in the code their joined state.
use Rattle.std.specs.Prelude.{ℕ, Bool, true, false, List, [], ◌∷◌, ◌++◌, flat_map, Option, Some, None, if◌then◌else◌}
use Rattle.std.specs.Ordering.{eq_by_cmp}
use Rattle.sup_specs.specs.Values.{Bytes, text_cmp}
use Rattle.sup_tables.specs.declared.row.Row.{Row}
use Rattle.sup_tables.specs.Rows.{children, key_of, spec_of}
use Rattle.sup_tables.specs.Operations.{Operation, live, greatest, covers}
use Rattle.sup_tables.specs.Readers.{winners, eligible}
use Rattle.sup_placement.specs.Place.{Weigher, place}
use Rattle.sup_local_sup.specs.declared.wanted.Wanted.{Wanted}
use Rattle.sup_local_sup.specs.Windows.{Window}
use Rattle.sup_local_sup.specs.Supervising.{Supervisor, with_all}
use Rattle.sup_local_sup.specs.declared.effect.Effect.{Effect}
use Rattle.sup_replica.specs.declared.done.Reply.{Reply}

-- what a node asks of what it knows
pub record Knowledge (K : Type 0) : Type 0 where
  pub rows : K → List Row  -- the live rows, in their order
  pub counter : K → Bytes → ℕ  -- the greatest known counter of a node, 0 where none is known
  pub covers : K → K → Bool  -- the second has nothing new to the first
  pub with_more : K → K → K  -- both together
  pub of_one : Operation → K  -- one operation's
  pub nothing : K
  pub restarts : Window → ℕ → Window  -- a window with one restart more

-- in the model: the list of operations, which a node's own and each message's are put behind
abbrev pub by_operations : Knowledge (List Operation)
by_operations = record { rows = live; counter = greatest; covers = covers; with_more = λ ops others. ops ++ others; of_one = λ op. op ∷ []; nothing = []; restarts = with_all }

pub record Node (K : Type 0) : Type 0 where
  pub name : Bytes
  pub known : K  -- what it absorbed, its own operations among it
  pub up : Bool
  pub count : ℕ  -- of its changes
  pub supervisor : Supervisor  -- boot, incarnations given out, kept list, moments
  pub newest : Option K  -- its newest own operation since its boot

pub data Kind : Type 0 where
  delta : Kind
  push : Kind
  ack : Kind

-- an acknowledgement carries nothing
pub record Message (K : Type 0) : Type 0 where
  pub to : Bytes
  pub kind : Kind
  pub content : K

-- what is told: the reply, and what is to be done with children
pub record ToldOutcome : Type 0 where
  pub reply : Reply
  pub effects : List Effect

-- an act's answer, its letter, the node after it, and whether it changes the image, and so saves it first
pub record ActOutcome (K : Type 0) : Type 0 where
  pub done : ToldOutcome
  pub letter : Option (Message K)
  pub node : Node K
  pub saves : Bool

abbrev pub is_named : Bytes → Bytes → Bool
is_named = eq_by_cmp text_cmp

-- whether the child is placed on this node
abbrev pub is_placed_on : Bytes → Option Bytes → Bool
is_placed_on me None = false
is_placed_on me (Some m) = is_named m me

-- a child that is to run here
abbrev pub wanted_of : Row → Wanted
wanted_of r = record { id = key_of r.entry; dot = r.dot; spec = spec_of r.entry }

abbrev pub wanted_row : Weigher → Bytes → List Bytes → Row → List Wanted
wanted_row weigher me hosts r = if is_placed_on me (place weigher hosts (key_of r.entry)) then wanted_of r ∷ [] else []

-- the children placed on a node, with their winning dots, rising by id
abbrev pub wanted_at : Weigher → Bytes → List Row → List Wanted
wanted_at weigher me rows = flat_map (wanted_row weigher me (eligible rows)) (winners rows children)

-- a node that was just made
abbrev pub fresh : {K : Type 0} → Knowledge K → Bytes → ℕ → ℕ → Node K
fresh k name intensity period = record {
  name = name;
  known = k.nothing;
  up = true;
  count = 0;
  supervisor = record { boot = 1; given = 0; kept = []; window = record { intensity = intensity; period = period; moments = [] } };
  newest = None;
}
