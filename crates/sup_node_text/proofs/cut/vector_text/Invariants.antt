use Rattle.std.proofs.Common.{◌≡◌, take, string_bytes}
use Rattle.std.specs.List.{flat_map}
use Rattle.sup_node_text.specs.Cuts.{vector_line}
use Rattle.sup_node_text.proofs.cut.vector_text.Given as goal

abbrev pub invariant-loop-node : goal.invariant-loop-node
invariant-loop-node l = string_bytes l.text ≡ flat_map vector_line (take l.node-index l.vector)
