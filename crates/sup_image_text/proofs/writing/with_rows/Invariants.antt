use Rattle.std.proofs.Common.{◌≡◌, ◌++◌, map, drop}
use Rattle.std.specs.List.{AllByRecursion}
use Rattle.sup_tables.specs.Lent.{rows_lent}
use Rattle.sup_wire.specs.Forms.{IsWritten}
use Rattle.sup_wire.specs.RowTexts.{row_text}
use Rattle.sup_image_text.proofs.writing.with_rows.Given as goal

abbrev pub invariant-loop-row : goal.invariant-loop-row
invariant-loop-row l = record {
  front : l.all.front ≡ l.initial.all.front;
  items : l.all.items ++ map row_text (rows_lent (drop l.row-index l.rows)) ≡ l.initial.all.items ++ map row_text (rows_lent l.rows);
  written : AllByRecursion IsWritten (rows_lent (drop l.row-index l.rows)) → AllByRecursion IsWritten (rows_lent l.rows);
}
