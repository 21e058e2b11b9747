-- Rows by their texts, and where a row stands among others (this project).
use Rattle.std.specs.Prelude.{◌≡◌, ◌<◌, ◌^◌, Bool, List, codes}
use Rattle.std.specs.Ordering.{is_lt}
use Rattle.sup_specs.specs.Values.{Bytes}
use Rattle.sup_edits.specs.Edits.{before, after}
use Rattle.sup_tables.specs.declared.row.Row.{Row}
use Rattle.sup_tables.specs.declared.lent.LentRow.{LentRow}
use Rattle.sup_tables.specs.Lent.{row_lent}
use Rattle.sup_tables.specs.Rows.{Table, members, children, names, place_cmp}
use Rattle.sup_wire.specs.Forms.{IsWritten}
use Rattle.sup_wire.specs.RowTexts.{row_text, AreRows}

-- how a row's text names its table
abbrev pub table_name : Table → Bytes
table_name members = codes "member"
table_name children = codes "child"
table_name names = codes "name"

-- it holds of the rows with these texts
abbrev pub ForRows : List Bytes → (List Row → Type 0) → Type 0
ForRows texts holds = (rows : List Row) → AreRows rows texts → holds rows

-- it says whether the row of this text stands before another
abbrev pub IsOrderOf : Bytes → Row → Bool → Type 0
IsOrderOf text other b = (r : Row) → text ≡ row_text r → IsWritten r → r.dot.counter < 2 ^ 64 → b ≡ is_lt (place_cmp r other)

-- the rows before a lent one, and the others
abbrev pub rows_before : LentRow → List Row → List Row
rows_before row rows = before place_cmp (row_lent row) rows

abbrev pub rows_after : LentRow → List Row → List Row
rows_after row rows = after place_cmp (row_lent row) rows
