use Rattle.std.proofs.Common.{◌≡◌, ◌++◌}
use Rattle.sup_dot_store.specs.RowLists.{rows_of}
use Rattle.sup_dot_store.proofs.row_lists.copied_rows.Given as goal

abbrev pub invariant-loop-key : goal.invariant-loop-key
invariant-loop-key g l = l.rows.items ++ rows_of l.key-iterator ≡ rows_of l.stores.entries
