use Rattle.std.proofs.Common.{◌≡◌, take, string_bytes}
use Rattle.std.specs.List.{flat_map}
use Rattle.sup_node_text.specs.Cuts.{cloud_line}
use Rattle.sup_node_text.proofs.cut.cloud_text.Given as goal

abbrev pub invariant-loop-dot : goal.invariant-loop-dot
invariant-loop-dot l = string_bytes l.text ≡ flat_map cloud_line (take l.dot-index l.cloud)
