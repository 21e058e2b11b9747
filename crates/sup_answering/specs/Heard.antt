-- Whose acknowledgements a node has heard (the rule of acknowledgements): a node holds no list of its peers.
use Rattle.std.specs.Prelude.{◌≡◌, Bool, true, false, List, [], ◌∷◌, ◌++◌, Option, Some, None, Result, Ok, Err, if◌then◌else◌}
use Rattle.std.specs.List.{list_any}
use Rattle.std.specs.Str.{bytes_eq}
use Rattle.sup_specs.specs.Values.{Bytes}
use Rattle.sup_tables.specs.States.{State}
use Rattle.sup_replica.specs.Stations.{Mail, a_delta, a_push, an_ack}
use Rattle.sup_replica.specs.declared.event.Act.{Act}
use Rattle.sup_replica.specs.declared.event.Act.TheVariants.{Event as Of}
use Rattle.sup_replica.specs.declared.event.Event.TheVariants.{Deliver}
use Rattle.sup_replica.specs.declared.done.Done.{Done}
use Rattle.sup_replica.specs.declared.done.Reply.{Reply}
use Rattle.sup_replica.specs.declared.done.Reply.TheVariants.{Acked}
use Rattle.sup_replica.specs.declared.refusal.Refusal.{Refusal}
use Rattle.sup_node.specs.Texts.{IsReadAs}

-- who acknowledges by mail, if it is that
abbrev pub sender_in : Option (Mail State) → Option Bytes
sender_in None = None
sender_in (Some (a_delta from to n whole content)) = None
sender_in (Some (a_push from to content)) = None
sender_in (Some (an_ack from to n)) = Some from

-- who acknowledges by these bytes: none where they are read as no acknowledgement
abbrev pub IsSender : Bytes → Option Bytes → Type 0
IsSender bytes peer = (mail : Option (Mail State)) × IsReadAs bytes mail × (peer ≡ sender_in mail)

-- who acknowledges by an act
abbrev pub AcknowledgesBy : Act → Option Bytes → Type 0
AcknowledgesBy (Of (Deliver bytes)) peer = IsSender bytes peer
AcknowledgesBy act peer = peer ≡ None

-- a name among others, once
abbrev pub with_peer : Option Bytes → List Bytes → List Bytes
with_peer None peers = peers
with_peer (Some peer) peers = if list_any (λ other. bytes_eq other peer) peers then peers else peers ++ (peer ∷ [])

abbrev pub is_acked : Reply → Bool
is_acked Acked = true
is_acked reply = false

abbrev pub is_acked_at : Result Done Refusal → Bool
is_acked_at (Ok done) = is_acked done.reply
is_acked_at (Err refusal) = false

-- the peers behind an act's end: with who acknowledged by it
abbrev pub HearsPeers : Act → Result Done Refusal → List Bytes → List Bytes → Type 0
HearsPeers act end before after =
    (is_acked_at end ≡ false → after ≡ before)
    × (is_acked_at end ≡ true → (peer : Option Bytes) × AcknowledgesBy act peer × (after ≡ with_peer peer before))
