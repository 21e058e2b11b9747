use Rattle.std.proofs.Common.{◌≡◌, map, take, string_bytes}
use Rattle.std.specs.List.{flat_map}
use Rattle.sup_tables.specs.Stored.{name_row}
use Rattle.sup_node_text.specs.Shown.{name_lines}
use Rattle.sup_node_text.proofs.tables.names_text.Given as goal

abbrev pub invariant-loop-winner : goal.invariant-loop-winner
invariant-loop-winner g l = string_bytes l.text ≡ flat_map (name_lines g.W.Weigh.weight_of l.tables.rows) (map (λ w. name_row w.key.now w.dot.now w.value.now) (take l.winner-index l.winner-items))
