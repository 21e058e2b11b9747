use Rattle.std.proofs.Common.{◌≡◌, take, string_bytes}
use Rattle.std.specs.List.{flat_map}
use Rattle.sup_node.specs.Contents.{station_of}
use Rattle.sup_node_text.specs.Inspected.{acked_line}
use Rattle.sup_node_text.proofs.inspect.acked_text.Given as goal

abbrev pub invariant-loop-peer : goal.invariant-loop-peer
invariant-loop-peer g l = string_bytes l.text ≡ flat_map (acked_line (station_of l.node).acked) (take l.peer-index l.peers)
