-- That a child which stays wanted goes on in its run (this project).
use Rattle.std.specs.Prelude.{◌≡◌, ℕ, Bool, true, false, ◌&&◌, Some, Ok}
use Rattle.std.specs.Map.{lookup}
use Rattle.std.specs.Str.{bytes_eq}
use Rattle.sup_specs.specs.Values.{Bytes}
use Rattle.sup_placement.specs.Place.{Weigher}
use Rattle.sup_local_sup.specs.declared.effect.Incarnation.{Incarnation}
use Rattle.sup_local_sup.specs.declared.kept.Entry.{Entry}
use Rattle.sup_local_sup.specs.Keeping.{is_wanted}
use Rattle.sup_local_sup.specs.Supervising.{inc_eq}
use Rattle.sup_replica.specs.declared.event.Event.TheVariants.{Exit}
use Rattle.sup_replica.specs.declared.event.Act.{Act}
use Rattle.sup_replica.specs.declared.event.Act.TheVariants.{Event as Of, Stop, Restart}
use Rattle.sup_replica.specs.declared.done.Reply.{Reply}
use Rattle.sup_replica.specs.declared.done.Reply.TheVariants.{GaveUp}
use Rattle.sup_replica.specs.Acts.{act_step, deliver}
use Rattle.sup_replica.specs.Nodes.{Node, Message, ActOutcome, by_operations}
use Rattle.sup_replica.specs.Steps.{wanted}
use Rattle.sup_model.specs.Worlds.{Ops}

-- the act tells that this run has ended
abbrev pub is_exit_of : Act → Bytes → Incarnation → Bool
is_exit_of (Of (Exit of run reason)) id inc = bytes_eq of id && inc_eq inc run
is_exit_of (Of event) id inc = false
is_exit_of Stop id inc = false
is_exit_of Restart id inc = false

abbrev pub gives_up : Reply → Bool
gives_up (GaveUp dots) = true
gives_up reply = false

-- under this id the node keeps this
abbrev pub Keeps : Node Ops → Bytes → Entry → Type 0
Keeps n id e = lookup (bytes_eq id) n.supervisor.kept ≡ Some e

abbrev pub Wants : Weigher → Node Ops → Bytes → Entry → Type 0
Wants weigher n id e = is_wanted (wanted by_operations weigher n) (id, e) ≡ true

-- what a node keeps that is up before an act and after it, and what it wants then, it keeps in the same run, unless that one has ended or the node gives up
abbrev pub ActsGoOn : Type 0
ActsGoOn =
    (weigher : Weigher) (n : Node Ops) (act : Act) (now : ℕ) (o : ActOutcome Ops) → act_step by_operations weigher n act now ≡ Ok o
    → n.up ≡ true → o.node.up ≡ true → gives_up o.done.reply ≡ false
    → (id : Bytes) (e : Entry) → Keeps n id e → is_exit_of act id e.inc ≡ false → Wants weigher o.node id e → Keeps o.node id e

-- and so it does when a message comes
abbrev pub DeliveriesGoOn : Type 0
DeliveriesGoOn =
    (weigher : Weigher) (n : Node Ops) (from : Bytes) (m : Message Ops) (whole : Bool) (o : ActOutcome Ops) → deliver by_operations weigher n from m whole ≡ Ok o
    → (id : Bytes) (e : Entry) → Keeps n id e → Wants weigher o.node id e → Keeps o.node id e
