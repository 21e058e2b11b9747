-- What a station shows of a node, beside the model's.
use Rattle.std.specs.Prelude.{◌≡◌, true, false, Option, Some, None}
use Rattle.sup_tables.specs.States.{State}
use Rattle.sup_tables.specs.Operations.{live}
use Rattle.sup_replica.specs.Stations.{Station}
use Rattle.sup_model.specs.Worlds.{ModelSite}
use Rattle.sup_station.specs.KeptStations.{StationSeen}

-- a running node: its boot, what it keeps, and its live rows
pub record ShowsNode (n : Station State) (site : ModelSite) : Type 0 where
  pub up : site.node.up ≡ true
  pub boot : n.node.supervisor.boot ≡ site.node.supervisor.boot
  pub kept : n.node.supervisor.kept ≡ site.node.supervisor.kept
  pub rows : n.node.known.rows ≡ live site.node.known

abbrev pub ShowsNodeOf : Option (Station State) → ModelSite → Type 0
ShowsNodeOf None site = site.node.up ≡ false
ShowsNodeOf (Some n) site = ShowsNode n site

abbrev pub IsShownAs : StationSeen → ModelSite → Type 0
IsShownAs still site = ShowsNodeOf still.node site
