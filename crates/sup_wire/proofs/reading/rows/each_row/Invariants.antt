use Rattle.std.proofs.Common.{◌≡◌, drop}
use Rattle.serde_json.specs.View.{items_view}
use Rattle.sup_wire.specs.RowReads.{after, each_in, row_at}
use Rattle.sup_wire.proofs.reading.rows.each_row.Given as goal

abbrev pub invariant-loop-value : goal.invariant-loop-value
invariant-loop-value l = after l.rows.items (each_in (row_at l.version) (items_view (drop l.value-index l.values))) ≡ each_in (row_at l.version) (items_view l.values)
