use Rattle.std.proofs.Common.{sym, subst}
use Rattle.sup_tables.specs.Readers.{eligible}
use Rattle.sup_tables.specs.Lent.{winner_lent}
use Rattle.sup_tables.specs.Stored.{child_row}
use Rattle.sup_local_sup.specs.Keeping.{AreCounted}
use Rattle.sup_node.proofs.PlacingLaws.{counted_taken}
use Rattle.sup_node.proofs.placing.listed.Goals as goal

pub returns-clause-counted : goal.returns-clause-counted
returns-clause-counted g c =
    subst AreCounted (sym c.loop-winner.invariant)
    (counted_taken c.loop-winner.winner-index c.in_ok-winners.winners.items c.deref-winner-items.result.now c.deref-winner-items.ensures.value g.W.Weigh.weight_of c.args.me.now (eligible c.args.tables.now.rows)
    (winner_lent child_row) c.in_ok-winners.ensures.counted)
