use Rattle.std.proofs.Common.{◌≡◌, ◌≤◌, ◌+◌, ◌-◌, ◌^◌, length, min}
use Rattle.sup_dot_store.specs.RowLists.{rows_of}
use Rattle.sup_dot_store.proofs.row_lists.count_rows.Given as goal

abbrev pub invariant-loop-function : goal.invariant-loop-function
invariant-loop-function g l = (l.count ≤ 2 ^ 64 - 1) × (min (l.count + length (rows_of l.function-iterator)) (2 ^ 64 - 1) ≡ min (length (rows_of l.stores.entries)) (2 ^ 64 - 1))
