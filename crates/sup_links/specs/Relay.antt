-- What was sent is what was received and then what the channel holds. One pass at most may put, and it has the list of what was sent. The same for takes.
use Rattle.std.specs.Prelude.{◌≡◌, ℕ, Bool, true, List, ◌++◌}
use mathlib.Core.Option.{some}
use lib.ListN.{get_elem?}
use Rattle.sup_links.specs.declared.channel.Seen.{Seen}
use Rattle.sup_links.specs.declared.channel.Parcel.{Parcel}

abbrev pub log : Bool → Bool → List Parcel → List Parcel → Seen
log a b sent got = record { puts = a; takes = b; put = sent; taken = got }

abbrev pub Fits : ℕ → ℕ → List Parcel → List Parcel → ℕ → Seen → Type 0
Fits writer reader sent got port v = (v.puts ≡ true → (port ≡ writer) × (v.put ≡ sent)) × (v.takes ≡ true → (port ≡ reader) × (v.taken ≡ got))

abbrev pub Relayed : List Parcel → List Seen → Type 0
Relayed items views = (writer : ℕ) × (reader : ℕ) × (sent : List Parcel) × (got : List Parcel) × (sent ≡ got ++ items)
    × ((port : ℕ) (v : Seen) → get_elem? views port ≡ some v → Fits writer reader sent got port v)
