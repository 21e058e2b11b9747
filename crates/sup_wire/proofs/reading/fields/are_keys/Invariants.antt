use Rattle.std.proofs.Common.{◌≡◌, ◌≤◌, map, drop, length}
use Rattle.serde_json.specs.View.{members_view}
use Rattle.sup_wire.specs.FieldReads.{are_keys}
use Rattle.sup_wire.proofs.reading.fields.are_keys.Given as goal

abbrev pub invariant-loop-key : goal.invariant-loop-key
invariant-loop-key l = record {
  within : l.next ≤ length l.names;
  same : are_keys (map (λ name. name.now) (drop l.next l.names)) (members_view l.key-iterator) ≡ are_keys (map (λ name. name.now) l.names) (members_view l.object.entries);
}
