use Rattle.std.proofs.Common.{◌≡◌, ◌++◌, [], length, reverse}
use Rattle.sup_dot_store.specs.RowLists.{rows_under}
use Rattle.sup_dot_store.proofs.row_runs.last_run.Given as goal

abbrev pub invariant-loop-dot : goal.invariant-loop-dot
invariant-loop-dot g l = (l.rows.items ++ rows_under l.key (reverse l.falling.items) ≡ l.fn.rows.items) × (reverse l.falling.items ≡ [] → ⊥)

abbrev pub decreases-loop-dot : goal.decreases-loop-dot
decreases-loop-dot g l = length l.rows.items
