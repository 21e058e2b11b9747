-- No two operations of a model world add the same dot.
use Rattle.std.specs.Map.{lookup}
use Rattle.std.specs.Str.{bytes_eq}
use Rattle.sup_local_sup.specs.Planning.{ruling, restarted_with, restart_effects}
use Rattle.sup_local_sup.specs.declared.leaving.Ruling.TheVariants.{Stale, Restart as Again, Finish, GiveUp}
use Rattle.sup_local_sup.specs.declared.leaving.Ruling.{Ruling}
use Rattle.sup_local_sup.specs.declared.leaving.Leaving.TheVariants.{Nobody, Finished as finished, GaveUp as gave_up}
use Rattle.sup_local_sup.specs.declared.leaving.Leaving.{Leaving}
use Rattle.std.specs.Prelude.{◌≡◌, ℕ, Bool, true, false, not, ◌||◌, ◌&&◌, [], ◌∷◌, ◌++◌, refl, Option, Some, None, Result, Ok, Err}
use Rattle.std.specs.List.{cons_option}
use Rattle.std.specs.Ordering.{eq_by_cmp}
use Rattle.std.proofs.Common.{sym, ◌∙◌, subst}
use Rattle.std.proofs.lemmas.Bool.{or_left, or_right}
use Rattle.std.proofs.lemmas.Option.{none-some}
use mathlib.Core.Bool.{true≢false}
use mathlib.Core.Logic.{◌⊎◌, inl, inr}
use Rattle.sup_specs.specs.Values.{Bytes}
use Rattle.sup_specs.specs.Rising.{among}
use Rattle.sup_causal.specs.declared.dot.Dot.{Dot}
use Rattle.sup_tables.specs.declared.row.Row.{Row}
use Rattle.sup_tables.specs.Rows.{row_cmp}
use Rattle.sup_tables.specs.Operations.{Operation, live, covers}
use Rattle.sup_tables.specs.Makers.{finish_child, drop_member}
use Rattle.sup_tables.proofs.AddLaws.{among-added-append, row_itself}
use Rattle.sup_tables.proofs.OneOperationLaws.{row_of_option}
use Rattle.sup_local_sup.specs.Supervising.{with_all, others}
use Rattle.sup_replica.specs.declared.event.Event.{Event}
use Rattle.sup_replica.specs.declared.event.Event.TheVariants.{Join, Leave, Drain, Start, Replace, Delete, Register, Unregister, Exit, Ship, Push, Deliver}
use Rattle.sup_replica.specs.declared.event.Act.TheVariants.{Event as Of, Stop, Restart}
use Rattle.sup_replica.specs.declared.event.Act.{Act}
use Rattle.sup_replica.specs.declared.done.Reply.{Reply}
use Rattle.sup_replica.specs.declared.done.Reply.TheVariants.{Removed, Restarted, Finished, GaveUp, Sent, Stopped, Boot}
use Rattle.sup_replica.specs.declared.refusal.Refusal.{Refusal}
use Rattle.sup_replica.specs.declared.refusal.Refusal.TheVariants.{Down, AlreadyUp, UnknownNode, BadMessage, WrongReceiver, CountSpent, KeepFailed}
use Rattle.sup_replica.specs.Checks.{refused_if}
use Rattle.sup_placement.specs.Place.{Weigher}
use Rattle.sup_model.specs.Worlds.{Ops}
use Rattle.sup_replica.specs.Nodes.{Node, Kind, delta, push, ack, Message, ActOutcome, by_operations, is_named}
use Rattle.sup_replica.specs.Commands as commands
use Rattle.sup_replica.specs.Steps.{reading, issues, command, exit_step, up_step, passes_greatest}
use Rattle.sup_replica.specs.Acts.{stopped, booted, act_step, absorbs, takes, deliver, kept_by, answer_to, keeps}
use Rattle.sup_replica.specs.Steps.{only, push_step}
use Rattle.sup_model.specs.Runs.{dot_of}
use Rattle.sup_model.proofs.Afters.{After, after-refused_if, after-then_do}
use Rattle.sup_anti_entropy.specs.Peers.{OccursIn}
use Rattle.sup_model.specs.Clean.{HasRow, ops_in}
use Rattle.sup_model.proofs.IssueLaws.{Issued, Adds, join_issued, leave_issued, drain_issued, start_issued, replace_issued, delete_issued, register_issued, unregister_issued, removing_issued, reading_top}

abbrev pub letter_ops : Option (Message Ops) → Ops
letter_ops None = []
letter_ops (Some m) = m.content

-- what an act takes: rows of P, and at most one new row, under the next dot of the node
pub record Takes (P : Row → Type 0) (n : Node Ops) (o : ActOutcome Ops) : Type 0 where
  pub new : Option Row
  pub fresh : (x : Row) → new ≡ Some x → x.dot ≡ commands.next (reading by_operations n)
  pub there : (x : Row) → new ≡ Some x → HasRow o.node.known x
  pub known : (x : Row) → HasRow o.node.known x → P x ⊎ (new ≡ Some x)
  pub newest : (x : Row) → HasRow (ops_in o.node.newest) x → P x ⊎ (new ≡ Some x)
  pub letter : (x : Row) → HasRow (letter_ops o.letter) x → P x ⊎ (new ≡ Some x)
  pub keeps : (x : Row) → HasRow n.known x → HasRow o.node.known x
  pub name : o.node.name ≡ n.name
  pub reply : (d : Dot) → OccursIn (dot_of o.done.reply) d → (d ≡ commands.next (reading by_operations n)) × ((x : Row) × (new ≡ Some x))

pub or-cases : (x y : Bool) (P : Type 0) → (x || y) ≡ true → (x ≡ true → P) → (y ≡ true → P) → P
or-cases true y P e f g = f refl
or-cases false y P e f g = g e

pub row-append : (ops others : Ops) (x : Row) (P : Type 0) → HasRow (ops ++ others) x → (HasRow ops x → P) → (HasRow others x → P) → P
row-append ops others x P e f g = or-cases _ _ P (sym (among-added-append ops others x) ∙ e) f g

pub row-left : (ops others : Ops) (x : Row) → HasRow ops x → HasRow (ops ++ others) x
row-left ops others x e = among-added-append ops others x ∙ or_left _ _ e

pub row-right : (ops others : Ops) (x : Row) → HasRow others x → HasRow (ops ++ others) x
row-right ops others x e = among-added-append ops others x ∙ or_right _ _ e

-- the row of one operation
pub row-one : (op : Operation) (x : Row) → HasRow (op ∷ []) x → op.add ≡ Some x
row-one op x e = row_of_option op.add x e

row_of-some : (o : Option Row) (x : Row) → o ≡ Some x → among row_cmp (cons_option o []) x ≡ true
row_of-some o x e = subst (λ o. among row_cmp (cons_option o []) x ≡ true) (sym e) (or_left (eq_by_cmp row_cmp x x) false (row_itself x))

issues_take : (P : Row → Type 0) (s : Weigher) (n : Node Ops) (reply : Reply) (leaving : Leaving) (op : Operation)
    → ((x : Row) → HasRow n.known x → P x) → Issued (reading by_operations n) op
    → ((d : Dot) → OccursIn (dot_of reply) d → (d ≡ commands.next (reading by_operations n)) × ((x : Row) × (op.add ≡ Some x)))
    → Takes P n (issues by_operations s n reply leaving (op ∷ []))
issues_take P s n reply leaving op own i replies = record {
  new = op.add;
  fresh = i.dot;
  there = λ x e. row-right n.known (op ∷ []) x (row_of-some op.add x e);
  known = λ x e. row-append n.known (op ∷ []) x (P x ⊎ (op.add ≡ Some x)) e (λ a. inl (own x a)) (λ a. inr (row-one op x a));
  newest = λ x e. inr (row-one op x e);
  letter = λ x e. absurd (true≢false (sym e));
  keeps = λ x e. row-left n.known (op ∷ []) x e;
  name = refl;
  reply = replies;
}

-- nothing new
only_take : (P : Row → Type 0) (n : Node Ops) (o : ActOutcome Ops) → o.node.name ≡ n.name
    → ((x : Row) → HasRow o.node.known x → P x) → ((x : Row) → HasRow (ops_in o.node.newest) x → P x) → ((x : Row) → HasRow (letter_ops o.letter) x → P x)
    → ((x : Row) → HasRow n.known x → HasRow o.node.known x) → ((d : Dot) → OccursIn (dot_of o.done.reply) d → ⊥) → Takes P n o
only_take P n o name k w l keeps none = record {
  new = None;
  fresh = λ x e. absurd (none-some x e);
  there = λ x e. absurd (none-some x e);
  known = λ x e. inl (k x e);
  newest = λ x e. inl (w x e);
  letter = λ x e. inl (l x e);
  keeps = keeps;
  name = name;
  reply = λ d h. absurd (none d h);
}

-- what a node has: its operations and its newest own
pub record Has (P : Row → Type 0) (n : Node Ops) : Type 0 where
  pub known : (x : Row) → HasRow n.known x → P x
  pub newest : (x : Row) → HasRow (ops_in n.newest) x → P x

adds_take : (P : Row → Type 0) (s : Weigher) (n : Node Ops) → Has P n → (issued : Result Operation Refusal) (reply : Operation → Reply)
    → ((op : Operation) (d : Dot) → OccursIn (dot_of (reply op)) d → d ≡ commands.next (reading by_operations n)) → After (Adds (reading by_operations n)) issued
    → After (Takes P n) (command by_operations s n issued reply)
adds_take P s n h (Ok op) reply replies a = issues_take P s n (reply op) Nobody op h.known a.issued (λ d is_in. (replies op d is_in, (a.row, a.is)))
adds_take P s n h (Err r) reply replies a = tt

removes_take : (P : Row → Type 0) (s : Weigher) (n : Node Ops) → Has P n → (issued : Result Operation Refusal) → After (Issued (reading by_operations n)) issued
    → After (Takes P n) (command by_operations s n issued (λ op. Removed op.removes))
removes_take P s n h (Ok op) i = issues_take P s n (Removed op.removes) Nobody op h.known i (λ d none. absurd none)
removes_take P s n h (Err r) i = tt

one_dot : (d e : Dot) → OccursIn (e ∷ []) d → d ≡ e
one_dot d e (inl same) = same
one_dot d e (inr none) = absurd none

exit_take : (P : Row → Type 0) (s : Weigher) (n : Node Ops) → Has P n → (id : Bytes) (now : ℕ) (r : Ruling) → After (Takes P n) (exit_step by_operations s n id now r)
exit_take P s n h id now Stale = tt
exit_take P s n h id now Again =
    only_take P n (only (record n { supervisor = restarted_with with_all n.supervisor id now }) Restarted (restart_effects n.supervisor id (lookup (bytes_eq id) n.supervisor.kept)) None) refl h.known h.newest (λ x e. absurd (true≢false (sym e))) (λ x e. e) (λ d none. none)
exit_take P s n h id now (Finish dot) =
    issues_take P s n (Finished dot) (finished id) (finish_child dot) h.known (removing_issued (reading by_operations n) (dot ∷ [])) (λ d none. absurd none)
exit_take P s n h id now GiveUp =
    let op = drop_member (live n.known) n.name in
    issues_take P s n (GaveUp op.removes) (gave_up id) op h.known (removing_issued (reading by_operations n) op.removes) (λ d none. absurd none)

push_take : (P : Row → Type 0) (n : Node Ops) → Has P n → (to : Bytes) (own : Option Ops) → ((x : Row) → HasRow (ops_in own) x → P x) → After (Takes P n) (push_step n to own)
push_take P n h to None o = tt
push_take P n h to (Some own) o = only_take P n (only n Sent [] (Some (record { to = to; kind = push; content = own }))) refl h.known h.newest o (λ x e. e) (λ d none. none)

event_take : (P : Row → Type 0) (s : Weigher) (n : Node Ops) → Has P n → (e : Event) (now : ℕ) → After (Takes P n) (up_step by_operations s n e now)
event_take P s n h (Join info) now = adds_take P s n h _ _ (λ op d e. one_dot d _ e) (join_issued (reading by_operations n) info)
event_take P s n h (Leave m) now = removes_take P s n h _ (leave_issued (reading by_operations n) m)
event_take P s n h (Drain m) now = adds_take P s n h _ _ (λ op d e. one_dot d _ e) (drain_issued (reading by_operations n) m (reading_top n))
event_take P s n h (Start id spec) now = adds_take P s n h _ _ (λ op d e. one_dot d _ e) (start_issued (reading by_operations n) id spec)
event_take P s n h (Replace id spec) now = adds_take P s n h _ _ (λ op d e. one_dot d _ e) (replace_issued (reading by_operations n) id spec (reading_top n))
event_take P s n h (Delete id) now = removes_take P s n h _ (delete_issued (reading by_operations n) id)
event_take P s n h (Register name id) now = adds_take P s n h _ _ (λ op d e. one_dot d _ e) (register_issued (reading by_operations n) name id)
event_take P s n h (Unregister name) now = removes_take P s n h _ (unregister_issued (reading by_operations n) name)
event_take P s n h (Exit id inc reason) now = exit_take P s n h id now (ruling n.supervisor id inc reason now)
event_take P s n h (Ship to) now =
    let o = only n Sent [] (Some (record { to = to; kind = delta; content = n.known })) in
    let sent : Result (ActOutcome Ops) Refusal = Ok o in
    after-refused_if (Takes P n) (is_named to n.name) UnknownNode sent (only_take P n o refl h.known h.newest h.known (λ x e. e) (λ d none. none))
event_take P s n h (Push to) now = after-refused_if (Takes P n) (is_named to n.name) UnknownNode (push_step n to n.newest) (push_take P n h to n.newest h.newest)
event_take P s n h (Deliver bytes) now = tt

nothing_there : (P : Row → Type 0) (x : Row) → HasRow [] x → P x
nothing_there P x e = absurd (true≢false (sym e))

pub act_take : (P : Row → Type 0) (s : Weigher) (n : Node Ops) → Has P n → (a : Act) (now : ℕ) → After (Takes P n) (act_step by_operations s n a now)
act_take P s n h (Of e) now = after-refused_if (Takes P n) (not n.up) Down (up_step by_operations s n e now) (event_take P s n h e now)
act_take P s n h Stop now =
    let o = only (stopped n) Stopped [] None in
    let ok : Result (ActOutcome Ops) Refusal = Ok o in
    after-refused_if (Takes P n) (not n.up) Down ok (only_take P n o refl h.known (nothing_there P) (nothing_there P) (λ x e. e) (λ d none. none))
act_take P s n h Restart now =
    let n' = booted n in
    let o : ActOutcome Ops = keeps by_operations s n' (Boot n'.supervisor.boot) None in
    let ok : Result (ActOutcome Ops) Refusal = Ok o in
    after-refused_if (Takes P n) n.up AlreadyUp ok (only_take P n o refl h.known (nothing_there P) (nothing_there P) (λ x e. e) (λ d none. none))

absorbs_take : (P : Row → Type 0) (s : Weigher) (n : Node Ops) → Has P n → (more : Ops) → ((x : Row) → HasRow more x → P x) → (letter : Option (Message Ops)) → ((x : Row) → HasRow (letter_ops letter) x → P x) → (b : Bool)
    → Takes P n (absorbs by_operations s n more letter b)
absorbs_take P s n h more m letter l true =
    only_take P n (absorbs by_operations s n more letter true) refl (λ x e. row-append n.known more x (P x) e (h.known x) (m x)) h.newest l (λ x e. row-left n.known more x e) (λ d none. none)
absorbs_take P s n h more m letter l false =
    only_take P n (absorbs by_operations s n more letter false) refl (λ x e. row-append n.known more x (P x) e (h.known x) (m x)) h.newest l (λ x e. row-left n.known more x e) (λ d none. none)

takes_take : (P : Row → Type 0) (s : Weigher) (n : Node Ops) → Has P n → (from : Bytes) (kind : Kind) (more : Ops) → ((x : Row) → HasRow more x → P x) → Takes P n (takes by_operations s n from kind more)
takes_take P s n h from ack more m = only_take P n (takes by_operations s n from ack more) refl h.known h.newest (nothing_there P) (λ x e. e) (λ d none. none)
takes_take P s n h from delta more m = absorbs_take P s n h more m (answer_to by_operations from delta) (nothing_there P) (covers n.known more)
takes_take P s n h from push more m = absorbs_take P s n h more m None (nothing_there P) (covers n.known more)

pub deliver_take : (P : Row → Type 0) (s : Weigher) (n : Node Ops) → Has P n → (from : Bytes) (m : Message Ops) → ((x : Row) → HasRow m.content x → P x) → (whole : Bool) → After (Takes P n) (deliver by_operations s n from m whole)
deliver_take P s n h from m c whole =
    let ok : Result (ActOutcome Ops) Refusal = Ok (takes by_operations s n from m.kind m.content) in
    let third = refused_if (not (is_named m.to n.name)) WrongReceiver ok in
    after-refused_if (Takes P n) (not n.up) Down (refused_if (not whole) BadMessage third)
    (after-refused_if (Takes P n) (not whole) BadMessage third
    (after-refused_if (Takes P n) (not (is_named m.to n.name)) WrongReceiver ok (takes_take P s n h from m.kind m.content c)))

pub kept_by_after : (P : ActOutcome Ops → Type 0) (saves : Bool) (x : Result (ActOutcome Ops) Refusal) → After P x → After P (kept_by saves x)
kept_by_after P saves x good =
    after-then_do P P x _ good (λ o g. after-refused_if P (passes_greatest o.node) CountSpent _ (after-refused_if P (o.saves && not saves) KeepFailed (Ok o) g))
