use Rattle.std.proofs.Common.{◌≡◌, ◌++◌, string_bytes}
use Rattle.std.specs.List.{flat_map}
use Rattle.sup_node_text.specs.Lines.{kept_line}
use Rattle.sup_node_text.proofs.kept.kept_text.Given as goal

-- what was written, and the lines of what is still to come
abbrev pub invariant-loop-id : goal.invariant-loop-id
invariant-loop-id l = string_bytes l.text ++ flat_map kept_line l.id-iterator ≡ flat_map kept_line l.kept
