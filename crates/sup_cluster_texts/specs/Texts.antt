-- What is printed of a cluster that has settled (this project's output format).
use Rattle.std.specs.Prelude.{ℕ, List, [], ◌∷◌, codes, Option, Some, None}
use Rattle.std.specs.List.{flat_map}
use Rattle.std.specs.Option.{option_and_then}
use Rattle.sup_specs.specs.Values.{Bytes}
use Rattle.sup_tables.specs.States.{State}
use Rattle.sup_placement.specs.Place.{Weigher}
use Rattle.sup_replica.specs.Stations.{Station}
use Rattle.sup_world.specs.CarriedSteps.{seen_at}
use Rattle.sup_world.specs.SeenNodes.{SeenNode}
use Rattle.sup_text.specs.Words.{text}
use Rattle.sup_node_text.specs.Shown.{down_text, tables_text}

-- the node of this name, if it runs
abbrev pub running_at : List SeenNode → Bytes → Option (Station State)
running_at sites name = option_and_then (λ s. s.kept_station.node) (seen_at sites name)

-- node N, and then what its tables show: members, children and names, each with its losers; or node N down
abbrev pub node_text : Weigher → Bytes → Option (Station State) → List ℕ
node_text weigher name None = down_text name
node_text weigher name (Some s) = text (codes "node " ∷ name ∷ codes "\n" ∷ tables_text weigher s.node.known.rows ∷ [])

-- the lines of the node of this name
abbrev pub named_text : Weigher → List SeenNode → Bytes → List ℕ
named_text weigher sites name = node_text weigher name (running_at sites name)

-- certified, and then each of these nodes
abbrev pub cluster_text : Weigher → List SeenNode → List Bytes → List ℕ
cluster_text weigher sites names = text (codes "certified\n" ∷ flat_map (named_text weigher sites) names ∷ [])
