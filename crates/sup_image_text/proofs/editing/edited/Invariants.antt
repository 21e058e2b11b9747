use Rattle.std.proofs.Common.{◌≡◌, ◌≤◌, ◌++◌, List, length, map, drop}
use Rattle.std.specs.List.{AllByRecursion}
use Rattle.sup_edits.specs.Edits.{edited, edit_of, IsComing}
use Rattle.sup_tables.specs.declared.row.Row.{Row}
use Rattle.sup_tables.specs.Rows.{place_cmp}
use Rattle.sup_tables.specs.Lent.{row_lent}
use Rattle.sup_wire.specs.Forms.{IsWritten}
use Rattle.sup_wire.specs.RowTexts.{AreRows, row_text}
use Rattle.sup_image_text.proofs.editing.edited.Given as goal

abbrev pub invariant-loop-edit : goal.invariant-loop-edit
invariant-loop-edit l = record {
  within : l.next ≤ length l.texts.items;
  front : l.made.front ≡ l.initial.made.front;
  written : AllByRecursion (IsComing IsWritten) (map (edit_of row_lent) (drop l.edit-index l.edits)) → AllByRecursion (IsComing IsWritten) (map (edit_of row_lent) l.edits);
  items : (rows : List Row) → AreRows rows l.texts.items → l.made.items ++ map row_text (edited place_cmp (map (edit_of row_lent) (drop l.edit-index l.edits)) (drop l.next rows)) ≡ map row_text (edited place_cmp (map (edit_of row_lent) l.edits) rows);
}
