-- The links of a driver, and what its node's answers put into them.
use Rattle.std.specs.Prelude.{◌≡◌, ◌⊎◌, ℕ, true, List, [], ◌∷◌, ◌++◌, length, flat_map, Some}
use Rattle.std.specs.List.{AllByRecursion}
use Rattle.sup_specs.specs.Values.{Bytes}
use Rattle.sup_replica.specs.declared.letter.Letter.{Letter}
use Rattle.sup_node_gate.specs.declared.entry.Entry.{Entry}
use Rattle.sup_node_gate.specs.Histories.{IsPrefix}
use Rattle.sup_links.specs.declared.link_in.Sent.{Sent}
use Rattle.sup_links.specs.Ends.{SameIn, IsSentOf, script_of, put_of, is_closed, sent_script, sent_put}
use Rattle.sup_plan.specs.Calls.{text_to, letters_to}
use Rattle.sup_posts.specs.declared.thread_fault.ThreadFault.{ThreadFault}
use Rattle.sup_posts.specs.declared.thread_fault.ThreadFault.TheVariants.{HistoryFull, LinkClosed, OutOfMemory}
use Rattle.sup_driving.specs.declared.wires.Wire.{Wire}

-- the same link's end later on
pub record IsLater (old new : Wire) : Type 0 where
  pub to : new.to ≡ old.to
  pub link : SameIn old.entry new.entry
  pub script : script_of new.entry ≡ script_of old.entry

-- the texts of those of these letters that are to this node
abbrev pub texts_to : Bytes → List Letter → List Bytes
texts_to name = flat_map (λ letter. text_to name (Some letter))

-- the letter was put last, if it is for the link's node
pub record HasPut (letter : Letter) (old new : Wire) : Type 0 where
  pub later : IsLater old new
  pub put : put_of new.entry ≡ put_of old.entry ++ text_to old.to (Some letter)

-- those of these letters that are for the link's node were put last, in their order
pub record HavePut (letters : List Letter) (old new : Wire) : Type 0 where
  pub later : IsLater old new
  pub put : put_of new.entry ≡ put_of old.entry ++ texts_to old.to letters

-- nothing was put yet
abbrev pub IsUnused : Wire → Type 0
IsUnused wire = put_of wire.entry ≡ []

-- the letters to its node of these entries were put, in their order, and nothing else
abbrev pub HasLetters : List Entry → Wire → Type 0
HasLetters entries wire = put_of wire.entry ≡ letters_to wire.to entries

abbrev pub HaveLetters : List Entry → List Wire → Type 0
HaveLetters entries = AllByRecursion (HasLetters entries)

-- so many of the entries that were seen have their letters put, the first ones, and nothing else is
pub record HaveShipped (count : ℕ) (seen : List Entry) (wires : List Wire) : Type 0 where
  pub front : List Entry
  pub begins : IsPrefix front seen
  pub long : length front ≡ count
  pub letters : HaveLetters front wires

-- the link was ended with all that was put
pub record IsEnded (wire : Wire) (sent : Sent) : Type 0 where
  pub link : IsSentOf sent wire.entry
  pub script : sent_script sent ≡ script_of wire.entry
  pub put : sent_put sent ≡ put_of wire.entry

-- one of the links is closed
abbrev pub HasClosed : List Wire → Type 0
HasClosed [] = ⊥
HasClosed (wire ∷ wires) = (is_closed wire.entry ≡ true) ⊎ HasClosed wires

-- why nothing more is put: a link is closed, or memory was refused
abbrev pub StopsPutting : List Wire → ThreadFault → Type 0
StopsPutting wires HistoryFull = ⊥
StopsPutting wires LinkClosed = HasClosed wires
StopsPutting wires OutOfMemory = Unit {0}
