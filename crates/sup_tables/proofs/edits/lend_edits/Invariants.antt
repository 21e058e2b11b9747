use Rattle.std.proofs.Common.{◌≡◌, ◌++◌}
use Rattle.sup_indexed.specs.Contents.{functions_of, functions_planned}
use Rattle.sup_tables.specs.Rows.{said_row}
use Rattle.sup_tables.specs.Lent.{edits_lent}
use Rattle.sup_tables.specs.Edits.{table_edits}
use Rattle.sup_tables.proofs.edits.lend_edits.Given as goal

abbrev pub invariant-loop-key : goal.invariant-loop-key
invariant-loop-key g l =
    edits_lent l.edits.items ++ table_edits g.K.Ord.cmp (said_row g.V.Entered.says) l.key-iterator (functions_of l.table).entries
    ≡ edits_lent l.fn.edits.items ++ table_edits g.K.Ord.cmp (said_row g.V.Entered.says) (functions_planned l.plan).entries (functions_of l.table).entries
