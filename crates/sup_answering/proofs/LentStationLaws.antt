-- What is seen of a node that a station lends is what its station is.
use Rattle.std.proofs.Common.{◌≡◌, Option, Some, None, refl}
use Rattle.std.specs.Borrow.{Bor}
use Rattle.std.specs.Option.{option_map, option_copied}
use Rattle.sup_tables.specs.States.{State}
use Rattle.sup_replica.specs.Stations.{Station}
use Rattle.sup_node.specs.declared.node.Node.{Node}
use Rattle.sup_node.specs.Contents.{station_of}
use Rattle.sup_node_text.specs.Shown.{shown_of, shown_at}
use Rattle.sup_node_text.specs.Inspected.{node_at}

pub shown_lent : {W : Type 0} {g : _} (lent : Option (Bor (Node W g))) (there : Option (Station State)) → option_map station_of (option_copied lent) ≡ there → shown_at lent ≡ option_map shown_of there
shown_lent None there e = rw (← e) refl
shown_lent (Some lent) there e = rw (← e) refl

pub node_lent : {W : Type 0} {g : _} (lent : Option (Bor (Node W g))) (there : Option (Station State)) → option_map station_of (option_copied lent) ≡ there → node_at lent ≡ there
node_lent None there e = e
node_lent (Some lent) there e = e
