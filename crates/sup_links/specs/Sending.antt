-- What sending messages in order adds to what was said on a channel (this project).
use Rattle.std.specs.Prelude.{◌≡◌, ◌++◌, List, Option, Result, Ok, Err}
use Rattle.sup_links.specs.Texts.{Bytes, on_way}

-- a beginning of them
abbrev pub Stops : List (Option Bytes) → List (Option Bytes) → List Bytes → Type 0
Stops before after all = (sent : List Bytes) × (rest : List Bytes) × (all ≡ sent ++ rest) × (after ≡ before ++ on_way sent)

-- all of them, or a beginning of them where the other end is gone
abbrev pub Sends : {A B : Type 0} → Result A B → List (Option Bytes) → List (Option Bytes) → List Bytes → Type 0
Sends (Ok _) before after all = after ≡ before ++ on_way all
Sends (Err _) before after all = Stops before after all
