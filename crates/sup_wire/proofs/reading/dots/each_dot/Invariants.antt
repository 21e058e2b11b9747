use Rattle.std.proofs.Common.{◌≡◌, drop}
use Rattle.serde_json.specs.View.{items_view}
use Rattle.sup_wire.specs.RowReads.{after, each_in, dot_at}
use Rattle.sup_wire.proofs.reading.dots.each_dot.Given as goal

abbrev pub invariant-loop-value : goal.invariant-loop-value
invariant-loop-value l = after l.dots.items (each_in dot_at (items_view (drop l.value-index l.values))) ≡ each_in dot_at (items_view l.values)
