-- The buffer of a node's newest deltas, and what each peer has acknowledged: Almeida, Shoker, Baquero 2018, 6 (delta intervals), with
-- this project's bound on the deltas held.
use Rattle.std.specs.Prelude.{ℕ, ◌+◌, ◌-◌, ◌<◌, ◌==◌, Bool, true, false, max, nat_le, List, [], ◌∷◌, ◌++◌, length, Option, Some, None, if◌then◌else◌}
use Rattle.sup_anti_entropy.specs.Joins.{newest_of, joined}

-- at most `room` deltas, oldest first, of the changes that lead to the count; and by peer the count up to which it has them
pub record Buffer (Id K : Type 0) : Type 0 where
  pub room : ℕ
  pub count : ℕ
  pub held : List K
  pub acked : Id → ℕ  -- 0 where the peer has acknowledged nothing

-- what a peer is sent: with the count as its number, the newest changes or all that is known
pub record Shipment (K : Type 0) : Type 0 where
  pub content : K
  pub number : ℕ
  pub whole : Bool

-- with one delta more
abbrev pub holds_more : {K : Type 0} → ℕ → List K → K → List K
holds_more room held delta = newest_of room (held ++ delta ∷ [])

-- the number of changes that a peer hasn't acknowledged decides: nothing, so many of the newest that are held, or all that is known
abbrev pub shipment_of : {K : Type 0} → (K → K → K) → K → List K → ℕ → K → ℕ → Option (Shipment K)
shipment_of join nothing held count known missing =
    if missing == 0 then None
    else if nat_le missing (length held) then Some (record { content = joined join nothing (newest_of missing held); number = count; whole = false })
    else Some (record { content = known; number = count; whole = true })

-- an acknowledged number only rises
abbrev pub acknowledged_by : {Id : Type 0} → (Id → Id → Bool) → (Id → ℕ) → Id → ℕ → Id → ℕ
acknowledged_by same acked from n = λ q. if same q from then max n (acked from) else acked q

module _ {Id K : Type 0} where
  abbrev pub noted : Buffer Id K → K → Buffer Id K
  noted b delta = record b { count = b.count + 1; held = holds_more b.room b.held delta }

  -- how many changes the peer hasn't acknowledged
  abbrev pub missing_of : Buffer Id K → Id → ℕ
  missing_of b to = b.count - b.acked to

  -- those of the deltas held that it hasn't acknowledged
  abbrev pub deltas_for : Buffer Id K → Id → List K
  deltas_for b to = newest_of (missing_of b to) b.held

  -- more is missing to it than is held
  abbrev pub IsBeyondHeld : Buffer Id K → Id → Type 0
  IsBeyondHeld b to = length b.held < missing_of b to

  abbrev pub shipped : (K → K → K) → K → Buffer Id K → K → Id → Option (Shipment K)
  shipped join nothing b known to = shipment_of join nothing b.held b.count known (missing_of b to)

  abbrev pub acked_more : (Id → Id → Bool) → Buffer Id K → Id → ℕ → Buffer Id K
  acked_more same b from n = record b { acked = acknowledged_by same b.acked from n }

  -- after a restart nothing is held and nothing acknowledged; the count goes on
  abbrev pub restarted : Buffer Id K → ℕ → Buffer Id K
  restarted b count = record b { count = count; held = []; acked = λ q. 0 }
