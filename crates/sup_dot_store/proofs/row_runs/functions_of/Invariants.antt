use Rattle.std.proofs.Common.{length}
use Rattle.sup_dot_store.proofs.RowRuns.{IsCut}
use Rattle.sup_dot_store.proofs.row_runs.functions_of.Given as goal

abbrev pub invariant-loop-stores : goal.invariant-loop-stores
invariant-loop-stores g l = IsCut g.K.Ord.cmp l.fn.rows.items l.rows.items l.stores.entries

abbrev pub decreases-loop-stores : goal.decreases-loop-stores
decreases-loop-stores g l = length l.rows.items
