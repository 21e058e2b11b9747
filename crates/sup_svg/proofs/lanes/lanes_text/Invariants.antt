use Rattle.std.proofs.Common.{◌≡◌, take, string_bytes}
use Rattle.std.specs.List.{flat_map}
use Rattle.sup_svg.specs.Pieces.{lane_text}
use Rattle.sup_svg.proofs.lanes.lanes_text.Given as goal

abbrev pub invariant-loop-node : goal.invariant-loop-node
invariant-loop-node l = string_bytes l.text ≡ flat_map (lane_text l.grid l.nodes l.rows) (take l.node-index l.nodes)
