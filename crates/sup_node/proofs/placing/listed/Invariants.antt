use Rattle.std.proofs.Common.{◌≡◌, map, take}
use Rattle.std.specs.List.{flat_map}
use Rattle.sup_tables.specs.Readers.{eligible}
use Rattle.sup_tables.specs.Lent.{winner_lent}
use Rattle.sup_tables.specs.Stored.{child_row}
use Rattle.sup_replica.specs.Nodes.{wanted_row}
use Rattle.sup_node.proofs.placing.listed.Given as goal

abbrev pub invariant-loop-winner : goal.invariant-loop-winner
invariant-loop-winner g l = l.wanted.items ≡ flat_map (wanted_row g.W.Weigh.weight_of l.me (eligible l.tables.rows)) (map (winner_lent child_row) (take l.winner-index l.winner-items))
