-- What the parcels of a channel say (this project).
use Rattle.std.specs.Prelude.{◌≡◌, ℕ, Option, Some, None, List, [], ◌∷◌, ◌++◌, MatchOption, Result, MatchResult, length, take, map, flat_map, option_to_list}
use Rattle.std.specs.declared.vec.Vec.{Vec}
use Rattle.std.specs.declared.alloc.Global.{Global}
use Rattle.crossbeam_channel.specs.Claims.{Pass, view}
use Rattle.sup_links.specs.declared.channel.Parcel.{Parcel}
use Rattle.sup_links.specs.declared.channel.Parcel.TheVariants.{Text, End}
use Rattle.sup_links.specs.declared.channel.Seen.{Seen}

-- a message
abbrev pub Bytes : Type 0
Bytes = List ℕ

abbrev pub texts : List (Vec ℕ Global) → List Bytes
texts = map (λ v. v.items)

-- a message, or none at the end mark
abbrev pub said_of : Parcel → Option Bytes
said_of (Text text) = Some text.items
said_of End = None

abbrev pub said : List Parcel → List (Option Bytes)
said = map said_of

-- what a pass has put, and what it has taken
abbrev pub put_said : Pass Parcel Seen → List (Option Bytes)
put_said p = said (view p).put

abbrev pub taken_said : Pass Parcel Seen → List (Option Bytes)
taken_said p = said (view p).taken

-- a parcel that went stands behind those put before; one that is handed back isn't put
abbrev pub IsPutOrHandedBack : Pass Parcel Seen → Pass Parcel Seen → Parcel → Result (Unit {0}) Parcel → Type 0
IsPutOrHandedBack p q parcel result = MatchResult result (λ _. (view q).put ≡ (view p).put ++ parcel ∷ []) (λ back. (back ≡ parcel) × ((view q).put ≡ (view p).put))

-- the messages alone
abbrev pub messages : List (Option Bytes) → List Bytes
messages = flat_map option_to_list

-- the message that was given stands behind those before; at None there are no more
abbrev pub IsMessageAdded : List Bytes → List Bytes → Option (Vec ℕ Global) → Type 0
IsMessageAdded before after given = MatchOption given (after ≡ before) (λ text. after ≡ before ++ text.items ∷ [])

-- messages on their way
abbrev pub on_way : List Bytes → List (Option Bytes)
on_way = map Some

-- the end mark on its way
abbrev pub mark : List (Option Bytes)
mark = None ∷ []

-- the first list is a beginning of the second
abbrev pub IsFront : {X : Type 0} → List X → List X → Type 0
IsFront front all = front ≡ take (length front) all
