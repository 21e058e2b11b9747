use Rattle.std.proofs.Common.{◌≡◌}
use Rattle.serde_json.specs.View.{members_view}
use Rattle.sup_wire.specs.RowReads.{after}
use Rattle.sup_wire.specs.DraftReads.{notes_in}
use Rattle.sup_wire.proofs.reading.context.each_note.Given as goal

abbrev pub invariant-loop-name : goal.invariant-loop-name
invariant-loop-name l = after l.vector.items (notes_in (members_view l.name-iterator)) ≡ notes_in (members_view l.object.entries)
