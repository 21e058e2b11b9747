use Rattle.std.proofs.Common.{◌≤◌, ◌-◌, List, length}
use Rattle.sup_tables.specs.declared.row.Row.{Row}
use Rattle.sup_tables.specs.Lent.{row_lent}
use Rattle.sup_wire.specs.RowTexts.{AreRows}
use Rattle.sup_image_text.proofs.Searches.{IsHalved}
use Rattle.sup_image_text.proofs.searching.place_from.Given as goal

abbrev pub invariant-loop-low : goal.invariant-loop-low
invariant-loop-low l = record {
  start : l.from ≤ l.low;
  order : l.low ≤ l.high;
  within : l.high ≤ length l.texts.items;
  halved : (rows : List Row) → AreRows rows l.texts.items → IsHalved (row_lent l.row) rows l.from l.low l.high;
}

abbrev pub decreases-loop-low : goal.decreases-loop-low
decreases-loop-low l = l.high - l.low
