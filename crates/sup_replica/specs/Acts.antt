-- One act of one node, over what it knows (this project): events, stops and restarts, and what comes of messages.
use Rattle.std.specs.Prelude.{ℕ, ◌+◌, Bool, true, false, not, ◌&&◌, List, [], Option, Some, None, Result, Ok}
use Rattle.sup_specs.specs.Values.{Bytes}
use Rattle.sup_placement.specs.Place.{Weigher}
use Rattle.sup_local_sup.specs.declared.effect.Effect.{Effect}
use Rattle.sup_local_sup.specs.Supervising.{forgotten, wanted_after, wanted_effects}
use Rattle.sup_replica.specs.declared.event.Act.{Act}
use Rattle.sup_replica.specs.declared.event.Act.TheVariants.{Event as Of, Stop, Restart}
use Rattle.sup_replica.specs.declared.done.Reply.{Reply}
use Rattle.sup_replica.specs.declared.done.Reply.TheVariants.{Absorbed, Known, Acked, Stopped, Boot}
use Rattle.sup_replica.specs.declared.refusal.Refusal.{Refusal}
use Rattle.sup_replica.specs.declared.refusal.Refusal.TheVariants.{Down, AlreadyUp, KeepFailed, BadMessage, WrongReceiver, CountSpent}
use Rattle.sup_replica.specs.Checks.{refused_if, then_do}
use Rattle.sup_replica.specs.Nodes.{Knowledge, Node, Kind, delta, push, ack, Message, ActOutcome, is_named}
use Rattle.sup_replica.specs.Steps.{only, wanted, event_step, passes_greatest}

module _ {K : Type 0} where
  -- a node that stops keeps its operations, boot and count
  abbrev pub stopped : Node K → Node K
  stopped n = record n { up = false; supervisor = record n.supervisor { kept = []; window = forgotten n.supervisor.window }; newest = None }

  abbrev pub booted : Node K → Node K
  booted n = record n {
    up = true;
    supervisor = record { boot = n.supervisor.boot + 1; given = 0; kept = []; window = forgotten n.supervisor.window };
    newest = None;
  }

  -- the last two checks: no number passes the greatest, and then the save
  abbrev pub kept_by : Bool → Result (ActOutcome K) Refusal → Result (ActOutcome K) Refusal
  kept_by saves step = then_do step (λ o. refused_if (passes_greatest o.node) CountSpent (refused_if (o.saves && not saves) KeepFailed (Ok o)))

module _ {K : Type 0} (k : Knowledge K) where
  -- a delta is answered by an acknowledgement
  abbrev pub answer_to : Bytes → Kind → Option (Message K)
  answer_to from delta = Some (record { to = from; kind = ack; content = k.nothing })
  answer_to from push = None
  answer_to from ack = None

module _ {K : Type 0} (k : Knowledge K) (weigher : Weigher) where
  -- the node after its tables have changed: it keeps what is wanted now
  abbrev pub reconciled : Node K → Node K
  reconciled n = record n { supervisor = wanted_after n.supervisor (wanted k weigher n) }

  abbrev pub changes : Node K → List Effect
  changes n = wanted_effects n.supervisor (wanted k weigher n)

  -- a changed node, which keeps what is wanted now
  abbrev pub keeps : Node K → Reply → Option (Message K) → ActOutcome K
  keeps n reply letter = record { done = record { reply = reply; effects = changes n }; letter = letter; node = reconciled n; saves = true }

  abbrev pub act_step : Node K → Act → ℕ → Result (ActOutcome K) Refusal
  act_step n (Of event) now = event_step k weigher n event now
  act_step n Stop now = refused_if (not n.up) Down (Ok (only (stopped n) Stopped [] None))
  act_step n Restart now = refused_if n.up AlreadyUp (Ok (keeps (booted n) (Boot (n.supervisor.boot + 1)) None))

  -- the operations come in. Where they are covered nothing changes, else the change is counted and saved
  abbrev pub absorbs : Node K → K → Option (Message K) → Bool → ActOutcome K
  absorbs n more letter true = only (record n { known = k.with_more n.known more }) Known [] letter
  absorbs n more letter false = keeps (record n { known = k.with_more n.known more; count = n.count + 1 }) Absorbed letter

  abbrev pub takes : Node K → Bytes → Kind → K → ActOutcome K
  takes n from ack more = only n Acked [] None
  takes n from delta more = absorbs n more (answer_to k from delta) (k.covers n.known more)
  takes n from push more = absorbs n more None (k.covers n.known more)

  -- a message comes, whole or cut short
  abbrev pub deliver : Node K → Bytes → Message K → Bool → Result (ActOutcome K) Refusal
  deliver n from m whole =
      refused_if (not n.up) Down
      (refused_if (not whole) BadMessage
      (refused_if (not (is_named m.to n.name)) WrongReceiver
      (Ok (takes n from m.kind m.content))))
