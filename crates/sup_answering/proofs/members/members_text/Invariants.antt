use Rattle.std.proofs.Common.{◌≡◌, map, take, string_bytes}
use Rattle.std.specs.List.{flat_map}
use Rattle.sup_tables.specs.Stored.{member_row}
use Rattle.sup_tables.specs.Rows.{key_of, info_of}
use Rattle.sup_node_text.specs.Lines.{member_line}
use Rattle.sup_answering.proofs.members.members_text.Given as goal

abbrev pub invariant-loop-winner : goal.invariant-loop-winner
invariant-loop-winner l = string_bytes l.text ≡ flat_map (λ r. member_line (key_of r.entry) r.dot (info_of r.entry)) (map (λ w. member_row w.key.now w.dot.now w.value.now) (take l.winner-index l.winner-items))
