use Rattle.std.proofs.Common.{◌≡◌, ◌++◌}
use Rattle.sup_dot_store.specs.RowLists.{rows_under}
use Rattle.sup_dot_store.proofs.row_lists.push_rows.Given as goal

abbrev pub invariant-loop-dot : goal.invariant-loop-dot
invariant-loop-dot g l = l.rows.items ++ rows_under l.fn.key l.dot-iterator ≡ l.fn.rows.items ++ rows_under l.fn.key l.fn.function.values.entries
