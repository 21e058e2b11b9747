-- A child that stays wanted goes on in its run.
use Rattle.std.specs.Prelude.{◌≡◌, ℕ, ◌+◌, Bool, true, false, cond, not, ◌&&◌, List, [], ◌∷◌, ◌++◌, Option, Some, None, Result, Ok, Err, refl, unwrap_or}
use Rattle.std.specs.Map.{lookup, set_value}
use Rattle.std.specs.Str.{bytes_eq}
use Rattle.std.proofs.Common.{sym, ap, ◌∙◌, subst}
use mathlib.Core.Bool.{true≢false}
use Rattle.sup_specs.specs.Values.{Bytes}
use Rattle.sup_specs.specs.declared.child.ExitReason.{ExitReason}
use Rattle.sup_tables.specs.Operations.{Operation, covers}
use Rattle.sup_placement.specs.Place.{Weigher}
use Rattle.sup_local_sup.specs.declared.effect.Incarnation.{Incarnation}
use Rattle.sup_local_sup.specs.declared.kept.Entry.{Entry}
use Rattle.sup_local_sup.specs.declared.leaving.Ruling.{Ruling}
use Rattle.sup_local_sup.specs.declared.leaving.Ruling.TheVariants.{Stale, Restart as Again, Finish, GiveUp}
use Rattle.sup_local_sup.specs.declared.wanted.Wanted.{Wanted}
use Rattle.sup_local_sup.specs.Keeping.{KeptChild, is_wanted, kept_after, newly, numbered, staying}
use Rattle.sup_local_sup.specs.Planning.{restart_kept, ruling, ruling_of}
use Rattle.sup_local_sup.specs.Supervising.{Supervisor, entry_in, inc_eq, others}
use Rattle.sup_local_sup.proofs.KeepingLaws.{exact_from_eq}
use Rattle.sup_local_sup.proofs.PlaceLaws.{same_other}
use Rattle.sup_replica.specs.declared.event.Event.{Event}
use Rattle.sup_replica.specs.declared.event.Event.TheVariants.{Join, Leave, Drain, Start, Replace, Delete, Register, Unregister, Exit, Ship, Push, Deliver}
use Rattle.sup_replica.specs.declared.event.Act.TheVariants.{Event as Of, Stop, Restart}
use Rattle.sup_replica.specs.declared.event.Act.{Act}
use Rattle.sup_replica.specs.declared.done.Reply.{Reply}
use Rattle.sup_replica.specs.declared.done.Reply.TheVariants.{Sent, Stopped, Boot}
use Rattle.sup_replica.specs.declared.refusal.Refusal.{Refusal}
use Rattle.sup_replica.specs.declared.refusal.Refusal.TheVariants.{Down, AlreadyUp, UnknownNode, BadMessage, WrongReceiver}
use Rattle.sup_replica.specs.Acts.{stopped, booted, act_step, absorbs, takes, deliver, keeps}
use Rattle.sup_replica.specs.Checks.{refused_if}
use Rattle.sup_replica.specs.Nodes.{Node, Kind, delta, push, ack, Message, ActOutcome, by_operations, is_named}
use Rattle.sup_replica.specs.Steps.{command, exit_step, up_step, only, push_step}
use Rattle.sup_model.specs.GoingOn.{ActsGoOn, DeliveriesGoOn, Keeps, Wants, gives_up, is_exit_of}
use Rattle.sup_model.specs.Worlds.{Ops}
use Rattle.sup_model.proofs.Afters.{After, after-refused_if, after-checked}
use Rattle.sup_model.proofs.EffectLaws.{ne_flips}
use Rattle.sup_model.proofs.StartLaws.{IsFresh}

-- ---- what stands under an id
module _ (id : Bytes) (e : Entry) where
  found_first : (xs ys : List KeptChild) → lookup (bytes_eq id) xs ≡ Some e → lookup (bytes_eq id) (xs ++ ys) ≡ Some e
  found_first [] ys f = absurd cc
  found_first (x ∷ xs) ys f =
      elim (bytes_eq id x.0) as (λ b. cond b (Some x.1) (lookup (bytes_eq id) xs) ≡ Some e → cond b (Some x.1) (lookup (bytes_eq id) (xs ++ ys)) ≡ Some e) [
        | true ↦ λ g. g
        | false ↦ λ g. found_first xs ys g
      ] f

  found_stays : (ws : List Wanted) → is_wanted ws (id, e) ≡ true → (ks : List KeptChild) → lookup (bytes_eq id) ks ≡ Some e → lookup (bytes_eq id) (staying ks ws) ≡ Some e
  found_stays ws w [] f = f
  found_stays ws w (k ∷ ks) f = by (bytes_eq id k.0) refl f (found_stays ws w ks)
    where
      here : bytes_eq id k.0 ≡ true → k.1 ≡ e → is_wanted ws k ≡ true
      here h is = subst (λ (x : KeptChild). is_wanted ws x ≡ true) (λ i. (exact_from_eq id k.0 h i, sym is i)) w

      by : (b : Bool) → bytes_eq id k.0 ≡ b → cond b (Some k.1) (lookup (bytes_eq id) ks) ≡ Some e → (lookup (bytes_eq id) ks ≡ Some e → lookup (bytes_eq id) (staying ks ws) ≡ Some e)
          → lookup (bytes_eq id) (cond (is_wanted ws k) (k ∷ staying ks ws) (staying ks ws)) ≡ Some e
      by true h g later =
          ap (λ b. lookup (bytes_eq id) (cond b (k ∷ staying ks ws) (staying ks ws))) (here h (ap (λ o. unwrap_or o e) g))
          ∙ ap (λ b. cond b (Some k.1) (lookup (bytes_eq id) (staying ks ws))) h ∙ g
      by false h g later =
          elim (is_wanted ws k) as (λ b. lookup (bytes_eq id) (cond b (k ∷ staying ks ws) (staying ks ws)) ≡ Some e) [
            | true ↦ ap (λ b. cond b (Some k.1) (lookup (bytes_eq id) (staying ks ws))) h ∙ later g
            | false ↦ later g
          ]

  -- it stands there after a look at what is wanted
  found_after : (boot given : ℕ) (ks : List KeptChild) (ws : List Wanted) → is_wanted ws (id, e) ≡ true → lookup (bytes_eq id) ks ≡ Some e → lookup (bytes_eq id) (kept_after boot given ks ws) ≡ Some e
  found_after boot given ks ws w f = found_first (staying ks ws) (numbered boot given (newly ks ws)) (found_stays ws w ks f)

  -- an exit of another run that calls for something is of another child
  of_another : (v : Supervisor) (of : Bytes) (run : Incarnation) (reason : ExitReason) (now : ℕ) → lookup (bytes_eq id) v.kept ≡ Some e → (bytes_eq of id && inc_eq e.inc run) ≡ false → IsFresh (ruling v of run reason now) → bytes_eq of id ≡ false
  of_another v of run reason now at other fresh = by (bytes_eq of id) refl other
    where
      by : (b : Bool) → bytes_eq of id ≡ b → (b && inc_eq e.inc run) ≡ false → b ≡ false
      by false h f = refl
      by true h f = absurd (subst IsFresh
          (ap (λ o. ruling_of v reason now (entry_in run o)) (subst (λ x. lookup (bytes_eq x) v.kept ≡ Some e) (sym (exact_from_eq of id h)) at)
          ∙ ap (λ b. ruling_of v reason now (cond b (Some e) None)) f)
          fresh)

module _ (id : Bytes) where
  same_set : (other : Bytes) (new : Entry) → bytes_eq other id ≡ false → (ks : List KeptChild) → lookup (bytes_eq id) (set_value (bytes_eq other) ks new) ≡ lookup (bytes_eq id) ks
  same_set other new apart [] = refl
  same_set other new apart (k ∷ ks) = by (bytes_eq other k.0) refl (same_set other new apart ks)
    where
      past : (x : Entry) → bytes_eq other k.0 ≡ true → cond (bytes_eq id k.0) (Some x) (lookup (bytes_eq id) ks) ≡ lookup (bytes_eq id) ks
      past x h = ap (λ b. cond b (Some x) (lookup (bytes_eq id) ks)) (subst (λ y. bytes_eq id y ≡ false) (exact_from_eq other k.0 h) (ne_flips other id apart))

      by : (b : Bool) → bytes_eq other k.0 ≡ b → lookup (bytes_eq id) (set_value (bytes_eq other) ks new) ≡ lookup (bytes_eq id) ks
          → lookup (bytes_eq id) (cond b ((k.0, new) ∷ ks) (k ∷ set_value (bytes_eq other) ks new)) ≡ cond (bytes_eq id k.0) (Some k.1) (lookup (bytes_eq id) ks)
      by true h rest = past new h ∙ sym (past k.1 h)
      by false h rest = ap (λ o. cond (bytes_eq id k.0) (Some k.1) o) rest

  -- another child's next run leaves it as it is
  same_restarted : (v : Supervisor) (of : Bytes) (o : Option Entry) → bytes_eq of id ≡ false → lookup (bytes_eq id) (restart_kept v of o) ≡ lookup (bytes_eq id) v.kept
  same_restarted v of None apart = refl
  same_restarted v of (Some e) apart = same_set of _ apart v.kept

-- ---- acts, and messages that come
-- what is kept and still wanted is kept as it was, unless it ends so
abbrev Goes : Weigher → (Bytes → Incarnation → Bool) → Node Ops → ActOutcome Ops → Type 0
Goes s ends n o = gives_up o.done.reply ≡ false → (id : Bytes) (e : Entry) → Keeps n id e → ends id e.inc ≡ false → Wants s o.node id e → Keeps o.node id e

command_goes : (s : Weigher) (ends : Bytes → Incarnation → Bool) (n : Node Ops) (issued : Result Operation Refusal) (reply : Operation → Reply) → After (Goes s ends n) (command by_operations s n issued reply)
command_goes s ends n (Ok op) reply = λ _ id e at _ w. found_after id e n.supervisor.boot n.supervisor.given n.supervisor.kept _ w at
command_goes s ends n (Err r) reply = tt

finish_goes : (s : Weigher) (n : Node Ops) (of : Bytes) (run : Incarnation) (reason : ExitReason) (now : ℕ) (r : Ruling) → ruling n.supervisor of run reason now ≡ r → After (Goes s (is_exit_of (Of (Exit of run reason))) n) (exit_step by_operations s n of now r)
finish_goes s n of run reason now Stale is = tt
finish_goes s n of run reason now Again is = λ _ id e at other w.
    same_restarted id n.supervisor of (lookup (bytes_eq of) n.supervisor.kept) (of_another id e n.supervisor of run reason now at other (subst IsFresh (sym is) tt)) ∙ at
finish_goes s n of run reason now (Finish dot) is = λ _ id e at other w.
    found_after id e n.supervisor.boot n.supervisor.given (others n.supervisor.kept of) _ w
    (same_other of id n.supervisor.kept (of_another id e n.supervisor of run reason now at other (subst IsFresh (sym is) tt)) ∙ at)
finish_goes s n of run reason now GiveUp is = λ up id e at other w. absurd (true≢false up)

push_goes : (s : Weigher) (ends : Bytes → Incarnation → Bool) (n : Node Ops) (to : Bytes) (own : Option Ops) → After (Goes s ends n) (push_step n to own)
push_goes s ends n to None = tt
push_goes s ends n to (Some own) = λ _ id e at _ w. at

event_goes : (s : Weigher) (n : Node Ops) (event : Event) (now : ℕ) → After (Goes s (is_exit_of (Of event)) n) (up_step by_operations s n event now)
event_goes s n (Join info) now = command_goes s _ n _ _
event_goes s n (Leave m) now = command_goes s _ n _ _
event_goes s n (Drain m) now = command_goes s _ n _ _
event_goes s n (Start id spec) now = command_goes s _ n _ _
event_goes s n (Replace id spec) now = command_goes s _ n _ _
event_goes s n (Delete id) now = command_goes s _ n _ _
event_goes s n (Register name id) now = command_goes s _ n _ _
event_goes s n (Unregister name) now = command_goes s _ n _ _
event_goes s n (Exit id inc reason) now = finish_goes s n id inc reason now (ruling n.supervisor id inc reason now) refl
event_goes s n (Ship to) now =
    let sent : Result (ActOutcome Ops) Refusal = Ok (only n Sent [] (Some (record { to = to; kind = delta; content = n.known }))) in
    after-refused_if (Goes s (is_exit_of (Of (Ship to))) n) (is_named to n.name) UnknownNode sent (λ _ id e at _ w. at)
event_goes s n (Push to) now = after-refused_if (Goes s (is_exit_of (Of (Push to))) n) (is_named to n.name) UnknownNode (push_step n to n.newest) (push_goes s _ n to n.newest)
event_goes s n (Deliver bytes) now = tt

-- of a node that is up before and after it
abbrev GoesUp : Weigher → (Bytes → Incarnation → Bool) → Node Ops → ActOutcome Ops → Type 0
GoesUp s ends n o = o.node.up ≡ true → Goes s ends n o

up_too : (s : Weigher) (ends : Bytes → Incarnation → Bool) (n : Node Ops) (r : Result (ActOutcome Ops) Refusal) → After (Goes s ends n) r → After (GoesUp s ends n) r
up_too s ends n (Ok o) h = λ _. h
up_too s ends n (Err r) h = tt

act_goes : (s : Weigher) (n : Node Ops) (act : Act) (now : ℕ) → n.up ≡ true → After (GoesUp s (is_exit_of act) n) (act_step by_operations s n act now)
act_goes s n (Of event) now up =
    up_too s (is_exit_of (Of event)) n (refused_if (not n.up) Down (up_step by_operations s n event now))
    (after-refused_if (Goes s (is_exit_of (Of event)) n) (not n.up) Down (up_step by_operations s n event now) (event_goes s n event now))
act_goes s n Stop now up =
    let ok : Result (ActOutcome Ops) Refusal = Ok (only (stopped n) Stopped [] None) in
    after-refused_if (GoesUp s (is_exit_of Stop) n) (not n.up) Down ok (λ still. absurd (true≢false (sym still)))
act_goes s n Restart now up =
    let ok : Result (ActOutcome Ops) Refusal = Ok (keeps by_operations s (booted n) (Boot (n.supervisor.boot + 1)) None) in
    after-checked (GoesUp s (is_exit_of Restart) n) n.up AlreadyUp ok (λ off. absurd (true≢false (sym up ∙ off)))

pub acts_go_on : ActsGoOn
acts_go_on weigher n act now o is up still goes id e at other w = subst (After (GoesUp weigher (is_exit_of act) n)) is (act_goes weigher n act now up) still goes id e at other w

abbrev Comes : Weigher → Node Ops → ActOutcome Ops → Type 0
Comes s n o = (id : Bytes) (e : Entry) → Keeps n id e → Wants s o.node id e → Keeps o.node id e

absorbs_goes : (s : Weigher) (n : Node Ops) (more : Ops) (letter : Option (Message Ops)) (b : Bool) → Comes s n (absorbs by_operations s n more letter b)
absorbs_goes s n more letter true id e at w = at
absorbs_goes s n more letter false id e at w = found_after id e n.supervisor.boot n.supervisor.given n.supervisor.kept _ w at

takes_goes : (s : Weigher) (n : Node Ops) (from : Bytes) (kind : Kind) (more : Ops) → Comes s n (takes by_operations s n from kind more)
takes_goes s n from ack more id e at w = at
takes_goes s n from delta more id e at w = absorbs_goes s n more _ (covers n.known more) id e at w
takes_goes s n from push more id e at w = absorbs_goes s n more _ (covers n.known more) id e at w

deliver_goes : (s : Weigher) (n : Node Ops) (from : Bytes) (m : Message Ops) (whole : Bool) → After (Comes s n) (deliver by_operations s n from m whole)
deliver_goes s n from m whole =
    let ok : Result (ActOutcome Ops) Refusal = Ok (takes by_operations s n from m.kind m.content) in
    let third = refused_if (not (is_named m.to n.name)) WrongReceiver ok in
    after-refused_if (Comes s n) (not n.up) Down (refused_if (not whole) BadMessage third)
    (after-refused_if (Comes s n) (not whole) BadMessage third
    (after-refused_if (Comes s n) (not (is_named m.to n.name)) WrongReceiver ok (takes_goes s n from m.kind m.content)))

pub deliveries_go_on : DeliveriesGoOn
deliveries_go_on weigher n from m whole o is id e at w = subst (After (Comes weigher n)) is (deliver_goes weigher n from m whole) id e at w
