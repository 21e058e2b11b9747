-- Which children a node keeps (the rule of kept children): exactly those that are placed on it, by id and dot.
use Rattle.std.specs.Prelude.{◌≡◌, Bool, ◌&&◌, true, List, map, Option, Some, None, if◌then◌else◌}
use Rattle.std.specs.List.{list_all}
use Rattle.sup_specs.specs.Values.{Bytes, text_cmp}
use Rattle.sup_specs.specs.Rising.{among}
use Rattle.sup_tables.specs.declared.row.Row.{Row}
use Rattle.sup_tables.specs.Rows.{children, key_of}
use Rattle.sup_tables.specs.Readers.{winner}
use Rattle.sup_tables.specs.States.{State}
use Rattle.sup_placement.specs.Place.{Weigher, place}
use Rattle.sup_local_sup.specs.declared.wanted.Wanted.{Wanted}
use Rattle.sup_local_sup.specs.declared.change.Change.{Change}
use Rattle.sup_local_sup.specs.declared.leaving.Leaving.{Leaving}
use Rattle.sup_local_sup.specs.declared.leaving.Leaving.TheVariants.{Nobody, Finished, GaveUp}
use Rattle.sup_local_sup.specs.Keeping.{KeptChild, is_wanted, is_kept}
use Rattle.sup_replica.specs.Nodes.{Node, is_placed_on, wanted_of}
use Rattle.sup_replica.specs.ByTables.{by_tables}
use Rattle.sup_replica.specs.Steps.{wanted}

-- what is kept is wanted, and what is wanted is kept
abbrev pub keeps : List KeptChild → List Wanted → Bool
keeps kept wanted = list_all (is_wanted wanted) kept && list_all (is_kept kept) wanted

abbrev pub keeps_placed : Weigher → Node State → Bool
keeps_placed g n = keeps n.supervisor.kept (wanted by_tables g n)

-- what is wanted of a child's winner, where these members may have children
abbrev pub wanted_by : Weigher → Bytes → List Bytes → Option Row → Option Wanted
wanted_by g me hosts None = None
wanted_by g me hosts (Some r) = if is_placed_on me (place g hosts (key_of r.entry)) then Some (wanted_of r) else None

-- what is wanted under an id
abbrev pub wanted_under : Weigher → Bytes → List Bytes → List Row → Bytes → Option Wanted
wanted_under g me hosts rows id = wanted_by g me hosts (winner rows children id)

abbrev pub change_of : Weigher → Bytes → List Bytes → List Row → Bytes → Change
change_of g me hosts rows id = record { id = id; now = wanted_under g me hosts rows id }

-- what is wanted at a node under an id once its tables are these
abbrev pub wanted_then : Weigher → Node State → List Bytes → Bytes → State → Option Wanted
wanted_then g n hosts id new = wanted_under g n.name hosts new.rows id

-- the changes under these ids then
abbrev pub changes_then : Weigher → Node State → List Bytes → List Bytes → State → List Change
changes_then g n hosts ids new = map (change_of g n.name hosts new.rows) ids

-- who leaves is among these children, and nobody else leaves
abbrev pub ListsLeaving : List Bytes → Leaving → Type 0
ListsLeaving ids Nobody = Unit {0}
ListsLeaving ids (Finished id) = among text_cmp ids id ≡ true
ListsLeaving ids (GaveUp id) = ⊥

-- the one child that leaves; none where nobody does, or all do
abbrev pub ended_of : Leaving → Option Bytes
ended_of Nobody = None
ended_of (Finished id) = Some id
ended_of (GaveUp id) = None
