use Rattle.std.proofs.Common.{◌≡◌, map, take, string_bytes}
use Rattle.std.specs.List.{flat_map}
use Rattle.sup_tables.specs.Stored.{member_row}
use Rattle.sup_node_text.specs.Shown.{member_lines}
use Rattle.sup_node_text.proofs.tables.members_text.Given as goal

abbrev pub invariant-loop-winner : goal.invariant-loop-winner
invariant-loop-winner l = string_bytes l.text ≡ flat_map (member_lines l.tables.rows) (map (λ w. member_row w.key.now w.dot.now w.value.now) (take l.winner-index l.winner-items))
