-- One event at one node, over what it knows (this project). A ship sends all that the node knows, a push its newest own operation.
use Rattle.std.specs.Prelude.{ℕ, ◌+◌, Bool, true, false, not, ◌||◌, List, [], nat_lt, Option, Some, None, Result, Ok, Err}
use Rattle.sup_specs.specs.Values.{Bytes}
use Rattle.sup_specs.specs.declared.limits.TheConstants.{MAX}
use Rattle.sup_tables.specs.Operations.{Operation}
use Rattle.sup_tables.specs.Makers.{drop_member, finish_child}
use Rattle.sup_placement.specs.Place.{Weigher}
use Rattle.sup_local_sup.specs.declared.effect.Effect.{Effect}
use Rattle.sup_local_sup.specs.declared.wanted.Wanted.{Wanted}
use Rattle.sup_local_sup.specs.declared.leaving.Ruling.{Ruling}
use Rattle.sup_local_sup.specs.declared.leaving.Ruling.TheVariants.{Stale, Restart, Finish, GiveUp}
use Rattle.sup_local_sup.specs.declared.leaving.Leaving.{Leaving}
use Rattle.sup_local_sup.specs.declared.leaving.Leaving.TheVariants.{Nobody, Finished as finished, GaveUp as gave_up}
use Rattle.sup_local_sup.specs.Planning.{ruling, leaving_after, leaving_effects, restart_effects, restarted_with}
use Rattle.std.specs.Str.{bytes_eq}
use Rattle.std.specs.Map.{lookup}
use Rattle.sup_replica.specs.declared.event.Event.{Event}
use Rattle.sup_replica.specs.declared.event.Event.TheVariants.{Join, Leave, Drain, Start, Replace, Delete, Register, Unregister, Exit, Ship, Push, Deliver}
use Rattle.sup_replica.specs.declared.done.Reply.{Reply}
use Rattle.sup_replica.specs.declared.done.Reply.TheVariants.{Added, Replaced, Removed, Restarted, Finished, GaveUp, Sent}
use Rattle.sup_replica.specs.declared.refusal.Refusal.{Refusal}
use Rattle.sup_replica.specs.declared.refusal.Refusal.TheVariants.{Down, UnknownNode, StaleExit, BadMessage, NothingToPush}
use Rattle.sup_replica.specs.Checks.{refused_if, then_do}
use Rattle.sup_replica.specs.Nodes.{Knowledge, Node, delta, push, Message, ActOutcome, is_named, wanted_at}
use Rattle.sup_replica.specs.Commands.{CommandReading, next, join, leave, drain, start, replace, delete, register, unregister}

module _ {K : Type 0} where
  -- no operation, no change of the tables
  abbrev pub only : Node K → Reply → List Effect → Option (Message K) → ActOutcome K
  only n reply effects letter = record { done = record { reply = reply; effects = effects }; letter = letter; node = n; saves = false }

  abbrev pub push_step : Node K → Bytes → Option K → Result (ActOutcome K) Refusal
  push_step n to None = Err NothingToPush
  push_step n to (Some own) = Ok (only n Sent [] (Some (record { to = to; kind = push; content = own })))

module _ {K : Type 0} (k : Knowledge K) where
  abbrev pub reading : Node K → CommandReading
  reading n = record { me = n.name; rows = k.rows n.known; counter = k.counter n.known n.name }

  -- an own operation: added to what it knows, counted, and its newest
  abbrev pub with_own : Node K → K → Node K
  with_own n own = record n { known = k.with_more n.known own; count = n.count + 1; newest = Some own }

module _ {K : Type 0} (k : Knowledge K) (weigher : Weigher) where
  abbrev pub wanted : Node K → List Wanted
  wanted n = wanted_at weigher n.name (k.rows n.known)

  -- what comes of an own operation: those that leave are let go, and then what is wanted with it is kept
  abbrev pub issues : Node K → Reply → Leaving → K → ActOutcome K
  issues n reply leaving own = record {
    done = record { reply = reply; effects = leaving_effects n.supervisor leaving (wanted (with_own k n own)) };
    node = record (with_own k n own) { supervisor = leaving_after n.supervisor leaving (wanted (with_own k n own)) };
    letter = None;
    saves = true;
  }

  abbrev pub command : Node K → Result Operation Refusal → (Operation → Reply) → Result (ActOutcome K) Refusal
  command n issued reply = then_do issued (λ op. Ok (issues n (reply op) Nobody (k.of_one op)))

  -- what comes of an exit; a restart changes no tables
  abbrev pub exit_step : Node K → Bytes → ℕ → Ruling → Result (ActOutcome K) Refusal
  exit_step n id now Stale = Err StaleExit
  exit_step n id now Restart = Ok (record {
    done = record { reply = Restarted; effects = restart_effects n.supervisor id (lookup (bytes_eq id) n.supervisor.kept) };
    node = record n { supervisor = restarted_with k.restarts n.supervisor id now };
    letter = None;
    saves = false;
  })
  exit_step n id now (Finish dot) = Ok (issues n (Finished dot) (finished id) (k.of_one (finish_child dot)))
  exit_step n id now GiveUp =
      let op = drop_member (k.rows n.known) n.name in Ok (issues n (GaveUp op.removes) (gave_up id) (k.of_one op))

  -- an event at a node that is up
  abbrev pub up_step : Node K → Event → ℕ → Result (ActOutcome K) Refusal
  up_step n (Join label) now = command n (join (reading k n) label) (λ op. Added (next (reading k n)))
  up_step n (Leave m) now = command n (leave (reading k n) m) (λ op. Removed op.removes)
  up_step n (Drain m) now = command n (drain (reading k n) m) (λ op. Replaced (next (reading k n)) op.removes)
  up_step n (Start id spec) now = command n (start (reading k n) id spec) (λ op. Added (next (reading k n)))
  up_step n (Replace id spec) now = command n (replace (reading k n) id spec) (λ op. Replaced (next (reading k n)) op.removes)
  up_step n (Delete id) now = command n (delete (reading k n) id) (λ op. Removed op.removes)
  up_step n (Register name id) now = command n (register (reading k n) name id) (λ op. Added (next (reading k n)))
  up_step n (Unregister name) now = command n (unregister (reading k n) name) (λ op. Removed op.removes)
  up_step n (Exit id inc reason) now = exit_step n id now (ruling n.supervisor id inc reason now)
  up_step n (Ship to) now = refused_if (is_named to n.name) UnknownNode (Ok (only n Sent [] (Some (record { to = to; kind = delta; content = n.known }))))
  up_step n (Push to) now = refused_if (is_named to n.name) UnknownNode (push_step n to n.newest)
  up_step n (Deliver bytes) now = Err BadMessage  -- bytes that bring no operations; what a message brings, `deliver` takes

  abbrev pub event_step : Node K → Event → ℕ → Result (ActOutcome K) Refusal
  event_step n event now = refused_if (not n.up) Down (up_step n event now)

-- whether a number passes the greatest: the last check before the save
abbrev pub passes_greatest : {K : Type 0} → Node K → Bool
passes_greatest n = nat_lt MAX n.count || (nat_lt MAX n.supervisor.given || nat_lt MAX n.supervisor.boot)
