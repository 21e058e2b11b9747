use Rattle.std.proofs.Common.{◌≡◌, take}
use Rattle.std.specs.Str.{bytes_eq}
use Rattle.std.specs.List.{list_any}
use Rattle.sup_specs.specs.Values.{Bytes}
use Rattle.sup_placement.specs.Assigned.{is_there}
use Rattle.sup_placement.proofs.assignment.Assignment.over.Given as goal

abbrev pub invariant-loop-id : goal.invariant-loop-id
invariant-loop-id g l = (l.made.members ≡ l.members) × ((q : Bytes) → is_there l.made q ≡ list_any (λ id. bytes_eq q id.now) (take l.id-index l.ids))
