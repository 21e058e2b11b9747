-- A station as a pass's view has it: plain parts, of which contracts make what they see of a station.
use Rattle.std.specs.Prelude.{◌≡◌, ℕ, Bool, true}
use Rattle.std.specs.Option.{option_map}
use Rattle.sup_specs.specs.Values.{Bytes}
use Rattle.sup_node.specs.NodeStates.{station_in}
use Rattle.sup_station.specs.declared.station.Station.{Station}
use Rattle.sup_node_gate.specs.Histories.{CountedStation}
use Rattle.sup_node_gate.specs.declared.view.Holding.{Holding}
use Rattle.sup_node_gate.specs.declared.view.Parts.{Parts}

-- the parts of a station, where this is what its keeper keeps, how often it has failed and whether it is sound
abbrev pub parts_of : {K W : Type 0} {g : _} {h : _} → (K → Bytes) → (K → ℕ) → (K → Bool) → Station K W g h → Parts
parts_of kept failures sound s = record { name = s.name; config = s.config; node = option_map (λ n. n.state) s.node; kept = kept s.keeper; failures = failures s.keeper; sound = sound s.keeper }

-- the station of these parts
abbrev pub counted_in : Parts → CountedStation
counted_in p = record { kept_station = record { name = p.name; config = p.config; node = option_map station_in p.node; kept = p.kept }; failures = p.failures }

abbrev pub counted_at : Holding → CountedStation
counted_at h = counted_in h.parts

-- sound, if that was
abbrev pub StaysSound : Parts → Parts → Type 0
StaysSound old new = old.sound ≡ true → new.sound ≡ true

-- the same history and the same station, whatever parts make it; it is sound if that is
abbrev pub IsLike : Holding → Holding → Type 0
IsLike h k = (h.history ≡ k.history) × (counted_at h ≡ counted_at k) × StaysSound k.parts h.parts
