-- What a text says of a message or an image, before its tables are known to be canonical; and the cut of a state (Almeida, Shoker, Baquero
-- 2018: version vector and dot cloud) by which its context is written. The rest is this project's.
use Rattle.std.specs.Prelude.{◌≡◌, ℕ, true, List, All}
use Rattle.sup_specs.specs.Values.{Bytes}
use Rattle.sup_causal.specs.declared.dot.Dot.{Dot}
use Rattle.sup_causal.specs.Dots.{has, IsCounted}
use Rattle.sup_causal.specs.Cut.{IsVector, IsCloud, IsCanonical, in_parts}
use Rattle.sup_tables.specs.declared.row.Row.{Row}
use Rattle.sup_tables.specs.Rows.{AreInOrder}
use Rattle.sup_tables.specs.States.{State, HasDotsOf}
use Rattle.sup_tables.specs.Joined.{IsTables}
use Rattle.sup_wire.specs.declared.message.Message.{Message}
use Rattle.sup_wire.specs.declared.message.Message.TheVariants.{Ack, Push, Delta}
use Rattle.sup_wire.specs.declared.image.Image.{Image}

-- tables as they are written
pub record TableParts : Type 0 where
  pub vector : List (Bytes × ℕ)
  pub cloud : List Dot
  pub rows : List Row

pub data Draft : Type 0 where
  -- sender, receiver, number
  ack : Bytes → Bytes → ℕ → Draft
  -- sender, receiver, delta
  push : Bytes → Bytes → TableParts → Draft
  -- sender, receiver, number, delta
  delta : Bytes → Bytes → ℕ → TableParts → Draft
  -- node, boot, count, state
  image : Bytes → ℕ → ℕ → TableParts → Draft

-- the parts that a state is written by: the cut of its context, and its rows
pub record IsCut (state : State) (p : TableParts) : Type 0 where
  pub vector : IsVector (has state.context) p.vector
  pub cloud : IsCloud (has state.context) p.cloud
  pub rows : p.rows ≡ state.rows

-- the draft that a message is written by
abbrev pub IsDraftOf : Message → Draft → Type 0
IsDraftOf (Ack from to n) d = d ≡ ack from to n
IsDraftOf (Push from to state) d = (p : TableParts) × IsCut state p × (d ≡ push from to p)
IsDraftOf (Delta from to n state) d = (p : TableParts) × IsCut state p × (d ≡ delta from to n p)

-- the draft that an image is written by
abbrev pub IsDraftOfImage : Image → Draft → Type 0
IsDraftOfImage i d = (p : TableParts) × IsCut i.state p × (d ≡ image i.node i.boot i.count p)

-- whether a draft is one of a message
abbrev pub SaysMessage : Draft → Type 0
SaysMessage (ack from to n) = Unit {0}
SaysMessage (push from to p) = Unit {0}
SaysMessage (delta from to n p) = Unit {0}
SaysMessage (image node boot count p) = ⊥

abbrev pub SaysImage : Draft → Type 0
SaysImage (ack from to n) = ⊥
SaysImage (push from to p) = ⊥
SaysImage (delta from to n p) = ⊥
SaysImage (image node boot count p) = Unit {0}

-- canonical parts: order and distance of vector and cloud, order of the rows, and a context that has their dots
pub record AreCanonical (p : TableParts) : Type 0 where
  pub context : IsCanonical p.vector p.cloud
  pub in_order : AreInOrder p.rows
  pub covered : All (λ r. in_parts p.vector p.cloud r.dot ≡ true) p.rows

abbrev pub IsSound : Draft → Type 0
IsSound (ack from to n) = Unit {0}
IsSound (push from to p) = AreCanonical p
IsSound (delta from to n p) = AreCanonical p
IsSound (image node boot count p) = AreCanonical p

-- a state as tables have it
pub record IsWhole (state : State) : Type 0 where
  pub tables : IsTables state
  pub in_order : AreInOrder state.rows
  pub covered : HasDotsOf state.context state.rows
  pub counted : (d : Dot) → has state.context d ≡ true → IsCounted d

-- a message whose state is one that tables have
abbrev pub IsWholeMessage : Message → Type 0
IsWholeMessage (Ack from to n) = Unit {0}
IsWholeMessage (Push from to state) = IsWhole state
IsWholeMessage (Delta from to n state) = IsWhole state

abbrev pub IsWholeImage : Image → Type 0
IsWholeImage i = IsWhole i.state
