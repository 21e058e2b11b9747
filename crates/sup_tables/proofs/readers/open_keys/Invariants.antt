use Rattle.std.proofs.Common.{◌≡◌, [], ◌∷◌, if◌then◌else◌, take}
use Rattle.std.specs.Prelude.{flat_map}
use Rattle.sup_tables.specs.Readers.{is_open}
use Rattle.sup_tables.proofs.readers.open_keys.Given as goal

abbrev pub invariant-loop-winner : goal.invariant-loop-winner
invariant-loop-winner l = l.found.items ≡ flat_map (λ w. if is_open w.value.now.status then w.key.now ∷ [] else []) (take l.winner-index l.winners)
