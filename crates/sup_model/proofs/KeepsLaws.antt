-- After any list of steps each up node keeps exactly what is placed on it, each child once.
use Rattle.std.specs.Prelude.{◌≡◌, ℕ, zero, suc, ◌+◌, ◌==◌, Bool, true, false, cond, not, ◌&&◌, List, [], ◌∷◌, ◌++◌, map, find, Contains, Option, Some, None, Result, Ok, Err, refl, length, ◌<◌, if◌then◌else◌, unwrap_or}
use Rattle.std.specs.List.{list_all, AllByRecursion}
use Rattle.std.proofs.Common.{sym, ap, ◌∙◌, subst, arith}
use mathlib.Core.Bool.{true≢false}
use Rattle.sup_specs.specs.Values.{Bytes}
use Rattle.sup_tables.specs.declared.row.Row.{Row}
use Rattle.sup_tables.specs.Operations.{Operation, live, covers}
use Rattle.sup_tables.proofs.CoverLaws.{covers-live}
use Rattle.sup_tables.specs.Makers.{drop_member, finish_child}
use Rattle.sup_local_sup.specs.Keeping.{is_wanted, is_kept}
use Rattle.sup_local_sup.specs.declared.leaving.Leaving.{Leaving}
use Rattle.sup_local_sup.specs.declared.leaving.Leaving.TheVariants.{Nobody, Finished as finished, GaveUp as gave_up}
use Rattle.sup_local_sup.specs.declared.leaving.Ruling.{Ruling}
use Rattle.sup_local_sup.specs.declared.leaving.Ruling.TheVariants.{Stale, Restart as Again, Finish, GiveUp}
use Rattle.sup_local_sup.specs.Planning.{ruling, left, restarted_with}
use Rattle.sup_local_sup.specs.Supervising.{with_all}
use Rattle.sup_local_sup.proofs.AgainLaws.{again_wanted, again_kept}
use Rattle.sup_local_sup.proofs.KeptLaws.{none_more, none_less}
use Rattle.sup_local_sup.proofs.OnceLaws.{kept_once}
use Rattle.sup_replica.specs.declared.event.Event.{Event}
use Rattle.sup_replica.specs.declared.event.Event.TheVariants.{Join, Leave, Drain, Start, Replace, Delete, Register, Unregister, Exit, Ship, Push, Deliver}
use Rattle.sup_replica.specs.declared.event.Act.TheVariants.{Event as Of, Stop, Restart}
use Rattle.sup_replica.specs.declared.event.Act.{Act}
use Rattle.sup_replica.specs.declared.done.Reply.{Reply}
use Rattle.sup_replica.specs.declared.done.Reply.TheVariants.{Sent, Stopped, Boot, Finished, GaveUp}
use Rattle.sup_replica.specs.declared.refusal.Refusal.{Refusal}
use Rattle.sup_replica.specs.declared.refusal.Refusal.TheVariants.{Down, AlreadyUp, UnknownNode, BadMessage, WrongReceiver, CountSpent, KeepFailed, NoSuchMessage}
use Rattle.sup_replica.specs.Checks.{refused_if, then_do}
use Rattle.sup_placement.specs.Place.{Weigher}
use Rattle.sup_model.specs.Worlds.{WorldSetting, Ops, ModelWorld, ModelSite, ModelAnswer, WorldStepped, site_of, message_of, or_refused, acted, target_is_here, step, new}
use Rattle.sup_replica.specs.Nodes.{Node, Kind, delta, push, ack, Message, ActOutcome, by_operations, is_named, wanted_at}
use Rattle.sup_replica.specs.Steps.{wanted, issues, command, exit_step, up_step, passes_greatest, with_own}
use Rattle.sup_replica.specs.Acts.{reconciled, stopped, booted, act_step, absorbs, takes, deliver, kept_by, keeps}
use Rattle.sup_replica.specs.Steps.{only, push_step}
use Rattle.sup_model.specs.declared.step.Step.{Step}
use Rattle.sup_model.specs.declared.step.Step.TheVariants.{Node as AtNode, Deliver as Delivery, Raw}
use Rattle.sup_model.specs.Runs.{world_after, ModelAllows, ModelRun}
use mathlib.Core.Logic.{inl, inr}
use Rattle.sup_model.specs.Headline.{KeepsAdded, KeepsExactly}
use Rattle.sup_model.proofs.KeptRowLaws.{added_stays, kept_added, left_added, renewed_added, wants_added}
use Rattle.sup_model.proofs.OnceLaws.{IsOnce, once_none, once_left, once_renewed}
use Rattle.sup_replica.proofs.WantedLaws.{wanted_rises}
use Rattle.sup_model.proofs.Afters.{After, after-refused_if, after-then_do, after-or_refused}

-- an up node keeps exactly what is wanted
abbrev pub Good : Weigher → Node Ops → Type 0
Good s n = n.up ≡ true → KeepsExactly s n

abbrev pub GoodOutcome : Weigher → ActOutcome Ops → Type 0
GoodOutcome s o = Good s o.node

-- a node that has just looked at its tables is good
pub reconciled_good : (s : Weigher) (n : Node Ops) → (n.up ≡ true → IsOnce n.supervisor.kept) → (n.up ≡ true → KeepsAdded n.known n.supervisor.kept) → Good s (reconciled by_operations s n)
reconciled_good s n once added up = record {
  none_more = none_more n.supervisor.boot n.supervisor.given n.supervisor.kept (wanted by_operations s n);
  none_less = none_less n.supervisor.boot n.supervisor.given n.supervisor.kept (wanted by_operations s n);
  once = kept_once n.supervisor.boot n.supervisor.given n.supervisor.kept (wanted by_operations s n) (wanted_rises s n.name (live n.known)) (once up);
  added = kept_added n.known n.supervisor.boot n.supervisor.given n.supervisor.kept (wanted by_operations s n) (added up) (wants_added s n.name n.known);
}

-- and so is one that has just issued
issues_good : (s : Weigher) (n : Node Ops) (reply : Reply) (leaving : Leaving) (own : Ops) → Good s n → Good s (issues by_operations s n reply leaving own).node
issues_good s n reply leaving own good up =
    let v = left n.supervisor leaving in
    let ws = wanted by_operations s (with_own by_operations n own) in
    record {
      none_more = none_more v.boot v.given v.kept ws;
      none_less = none_less v.boot v.given v.kept ws;
      once = kept_once v.boot v.given v.kept ws (wanted_rises s n.name (live (n.known ++ own))) (once_left n.supervisor.kept leaving (good up).once);
      added = kept_added (n.known ++ own) v.boot v.given v.kept ws (added_stays n.known own v.kept (left_added n.known n.supervisor.kept leaving (good up).added)) (wants_added s n.name (n.known ++ own));
    }

command_good : (s : Weigher) (n : Node Ops) (issued : Result Operation Refusal) (reply : Operation → Reply) → Good s n → After (GoodOutcome s) (command by_operations s n issued reply)
command_good s n (Ok op) reply good = issues_good s n (reply op) Nobody (op ∷ []) good
command_good s n (Err r) reply good = tt

-- a restart keeps the child and the dot of its entry
pub renewed_good : (s : Weigher) (n : Node Ops) (id : Bytes) (now : ℕ) → Good s n → Good s (record n { supervisor = restarted_with with_all n.supervisor id now })
renewed_good s n id now good up =
    let g = good up in
    let ws = wanted by_operations s n in
    record { none_more = again_wanted n.supervisor id ws ∙ g.none_more; none_less = again_kept n.supervisor id ws ∙ g.none_less; once = once_renewed n.supervisor id g.once; added = renewed_added n.known n.supervisor id g.added }

exit_good : (s : Weigher) (n : Node Ops) (id : Bytes) (now : ℕ) (r : Ruling) → Good s n → After (GoodOutcome s) (exit_step by_operations s n id now r)
exit_good s n id now Stale good = tt
exit_good s n id now Again good = renewed_good s n id now good
exit_good s n id now (Finish dot) good = issues_good s n (Finished dot) (finished id) (finish_child dot ∷ []) good
exit_good s n id now GiveUp good = let op = drop_member (live n.known) n.name in issues_good s n (GaveUp op.removes) (gave_up id) (op ∷ []) good

push_good : (s : Weigher) (n : Node Ops) (to : Bytes) (own : Option Ops) → Good s n → After (GoodOutcome s) (push_step n to own)
push_good s n to None good = tt
push_good s n to (Some own) good = good

event_good : (s : Weigher) (n : Node Ops) (e : Event) (now : ℕ) → Good s n → After (GoodOutcome s) (up_step by_operations s n e now)
event_good s n (Join info) now good = command_good s n _ _ good
event_good s n (Leave m) now good = command_good s n _ _ good
event_good s n (Drain m) now good = command_good s n _ _ good
event_good s n (Start id spec) now good = command_good s n _ _ good
event_good s n (Replace id spec) now good = command_good s n _ _ good
event_good s n (Delete id) now good = command_good s n _ _ good
event_good s n (Register name id) now good = command_good s n _ _ good
event_good s n (Unregister name) now good = command_good s n _ _ good
event_good s n (Exit id inc reason) now good = exit_good s n id now (ruling n.supervisor id inc reason now) good
event_good s n (Ship to) now good =
    let sent : Result (ActOutcome Ops) Refusal = Ok (only n Sent [] (Some (record { to = to; kind = delta; content = n.known }))) in
    after-refused_if (GoodOutcome s) (is_named to n.name) UnknownNode sent good
event_good s n (Push to) now good = after-refused_if (GoodOutcome s) (is_named to n.name) UnknownNode (push_step n to n.newest) (push_good s n to n.newest good)
event_good s n (Deliver bytes) now good = tt

act_good : (s : Weigher) (n : Node Ops) (a : Act) (now : ℕ) → Good s n → After (GoodOutcome s) (act_step by_operations s n a now)
act_good s n (Of e) now good = after-refused_if (GoodOutcome s) (not n.up) Down (up_step by_operations s n e now) (event_good s n e now good)
act_good s n Stop now good =
    let ok : Result (ActOutcome Ops) Refusal = Ok (only (stopped n) Stopped [] None) in
    after-refused_if (GoodOutcome s) (not n.up) Down ok (λ up. absurd (true≢false (sym up)))
act_good s n Restart now good =
    let ok : Result (ActOutcome Ops) Refusal = Ok (keeps by_operations s (booted n) (Boot (n.supervisor.boot + 1)) None) in
    after-refused_if (GoodOutcome s) n.up AlreadyUp ok (reconciled_good s (booted n) (λ _. once_none) (λ _. tt))

-- what is covered leaves what is wanted
known_good : (s : Weigher) (n : Node Ops) (more : Ops) → covers n.known more ≡ true → Good s n → Good s (record n { known = n.known ++ more })
known_good s n more e good up =
    let g = good up in
    let P = λ (rows : List Row). (list_all (is_wanted (wanted_at s n.name rows)) n.supervisor.kept ≡ true) × (list_all (is_kept n.supervisor.kept) (wanted_at s n.name rows) ≡ true) in
    let h : P (live (n.known ++ more)) = subst P (sym (covers-live n.known more e)) (g.none_more, g.none_less) in
    record { none_more = h.0; none_less = h.1; once = g.once; added = added_stays n.known more n.supervisor.kept g.added }

absorbs_good : (s : Weigher) (n : Node Ops) (more : Ops) (letter : Option (Message Ops)) (b : Bool) → covers n.known more ≡ b → Good s n → Good s (absorbs by_operations s n more letter b).node
absorbs_good s n more letter true e good = known_good s n more e good
absorbs_good s n more letter false e good =
    reconciled_good s (record n { known = n.known ++ more; count = n.count + 1 }) (λ up. (good up).once) (λ up. added_stays n.known more n.supervisor.kept (good up).added)

takes_good : (s : Weigher) (n : Node Ops) (from : Bytes) (kind : Kind) (more : Ops) → Good s n → Good s (takes by_operations s n from kind more).node
takes_good s n from ack more good = good
takes_good s n from delta more good = absorbs_good s n more _ (covers n.known more) refl good
takes_good s n from push more good = absorbs_good s n more _ (covers n.known more) refl good

deliver_good : (s : Weigher) (n : Node Ops) (from : Bytes) (m : Message Ops) (whole : Bool) → Good s n → After (GoodOutcome s) (deliver by_operations s n from m whole)
deliver_good s n from m whole good =
    let ok : Result (ActOutcome Ops) Refusal = Ok (takes by_operations s n from m.kind m.content) in
    let third = refused_if (not (is_named m.to n.name)) WrongReceiver ok in
    after-refused_if (GoodOutcome s) (not n.up) Down (refused_if (not whole) BadMessage third)
    (after-refused_if (GoodOutcome s) (not whole) BadMessage third
    (after-refused_if (GoodOutcome s) (not (is_named m.to n.name)) WrongReceiver ok (takes_good s n from m.kind m.content good)))

kept_by_good : (s : Weigher) (saves : Bool) (x : Result (ActOutcome Ops) Refusal) → After (GoodOutcome s) x → After (GoodOutcome s) (kept_by saves x)
kept_by_good s saves x good =
    after-then_do (GoodOutcome s) (GoodOutcome s) x _ good (λ o g. after-refused_if (GoodOutcome s) (passes_greatest o.node) CountSpent _ (after-refused_if (GoodOutcome s) (o.saves && not saves) KeepFailed (Ok o) g))

pub each-find : {X : Type 0} (P : X → Type 0) (p : X → Bool) (xs : List X) (x : X) → AllByRecursion P xs → find p xs ≡ Some x → P x
each-find P p [] x h e = absurd (true≢false (ap Rattle.std.specs.Prelude.is_none e))
each-find P p (y ∷ ys) x h e =
    elim (p y) as (λ b. cond b (Some y) (find p ys) ≡ Some x → P x) [
      | true ↦ λ f. subst P (ap (λ o. unwrap_or o y) f) h.0
      | false ↦ λ f. each-find P p ys x h.1 f
    ] e

each-put : {X : Type 0} (P : X → Type 0) (p : X → Bool) (new : X) → P new → (xs : List X) → AllByRecursion P xs → AllByRecursion P (map (λ x. if p x then new else x) xs)
each-put P p new n [] h = tt
each-put P p new n (x ∷ xs) h =
    (elim (p x) as (λ b. P (if b then new else x)) [ true ↦ n | false ↦ h.0 ], each-put P p new n xs h.1)

each-Contains : {X : Type 0} (P : X → Type 0) (xs : List X) → AllByRecursion P xs → (k : ℕ) (d : X) → k < length xs → P (Rattle.std.specs.Prelude.slice_index_or xs k d)
each-Contains P [] h k d l = absurd (omega (arith, l))
each-Contains P (x ∷ xs) h zero d l = h.0
each-Contains P (x ∷ xs) h (suc k) d l = each-Contains P xs h.1 k d (omega (arith, l))

abbrev pub GoodWorld : ModelWorld → Type 0
GoodWorld w = AllByRecursion (λ (s : ModelSite). Good w.weigher s.node) w.sites

abbrev GoodStep : WorldStepped → Type 0
GoodStep x = GoodWorld x.world

acted_good : (w : ModelWorld) (site : ModelSite) (o : ActOutcome Ops) → GoodWorld w → Good w.weigher o.node → GoodStep (acted w site o)
acted_good w site o good h = each-put (λ (s : ModelSite). Good w.weigher s.node) _ _ h w.sites good

step_good : (w : ModelWorld) (st : Step) → GoodWorld w → After GoodStep (step w st)
step_good w (AtNode at act now saves) good =
    let done = λ (site : ModelSite). kept_by saves (act_step by_operations w.weigher site.node act now) in
    let next = λ (site : ModelSite) (o : ActOutcome Ops). let x : Result WorldStepped Refusal = Ok (acted w site o) in x in
    let rest = λ (site : ModelSite). then_do (done site) (next site) in
    after-or_refused GoodStep (site_of w at) UnknownNode (λ site. refused_if (not (target_is_here w act)) UnknownNode (rest site)) (λ site e.
    after-refused_if GoodStep (not (target_is_here w act)) UnknownNode (rest site)
    (after-then_do (GoodOutcome w.weigher) GoodStep (done site) (next site)
    (kept_by_good w.weigher saves (act_step by_operations w.weigher site.node act now)
    (act_good w.weigher site.node act now (each-find (λ (s : ModelSite). Good w.weigher s.node) (λ s. is_named at s.node.name) w.sites site good e)))
    (λ o h. acted_good w site o good h)))
step_good w (Delivery from k at drop now saves) good =
    let arrives = λ (m : Message Ops) (receiver : ModelSite). deliver by_operations w.weigher receiver.node from m (drop == 0) in
    let next = λ (receiver : ModelSite) (o : ActOutcome Ops). let x : Result WorldStepped Refusal = Ok (acted w receiver o) in x in
    let at_receiver = λ (m : Message Ops) (receiver : ModelSite). then_do (kept_by saves (arrives m receiver)) (next receiver) in
    let with_message = λ (m : Message Ops). or_refused (site_of w (unwrap_or at m.to)) UnknownNode (at_receiver m) in
    let with_sender = λ (sender : ModelSite). or_refused (message_of sender k) NoSuchMessage with_message in
    after-or_refused GoodStep (site_of w from) UnknownNode with_sender (λ sender _.
    after-or_refused GoodStep (message_of sender k) NoSuchMessage with_message (λ m _.
    after-or_refused GoodStep (site_of w (unwrap_or at m.to)) UnknownNode (at_receiver m) (λ receiver e.
    after-then_do (GoodOutcome w.weigher) GoodStep (kept_by saves (arrives m receiver)) (next receiver)
    (kept_by_good w.weigher saves (arrives m receiver)
    (deliver_good w.weigher receiver.node from m (drop == 0) (each-find (λ (s : ModelSite). Good w.weigher s.node) (λ s. is_named (unwrap_or at m.to) s.node.name) w.sites receiver good e)))
    (λ o h. acted_good w receiver o good h))))
step_good w (Raw at bytes) good =
    let none : Result WorldStepped Refusal = Err NoSuchMessage in
    let inner = refused_if (not (w.is_message bytes)) BadMessage none in
    after-or_refused GoodStep (site_of w at) UnknownNode (λ site. refused_if (not site.node.up) Down inner) (λ site _.
    after-refused_if GoodStep (not site.node.up) Down inner (after-refused_if GoodStep (not (w.is_message bytes)) BadMessage none tt))

pub after_good : (w : ModelWorld) (r : Result WorldStepped Refusal) → GoodWorld w → After GoodStep r → GoodWorld (world_after w r)
after_good w (Ok x) good h = h
after_good w (Err refusal) good h = good

pub allowed_good : (w : ModelWorld) (s : Step) (answer : Result ModelAnswer Refusal) (w' : ModelWorld) → ModelAllows w s answer w' → GoodWorld w → GoodWorld w'
allowed_good w s answer w' (inl h) good = subst GoodWorld (sym h.1) (after_good w (step w s) good (step_good w s good))
allowed_good w s answer w' (inr (inl h)) good = subst GoodWorld (sym h.2) good
allowed_good w s answer w' (inr (inr h)) good = subst GoodWorld (sym h.3) good

pub run_good : (w : ModelWorld) (steps : List Step) (answers : List (Result ModelAnswer Refusal)) (w' : ModelWorld) → ModelRun w steps answers w' → GoodWorld w → GoodWorld w'
run_good w [] [] w' run good = subst GoodWorld (sym run) good
run_good w (s ∷ steps) (answer ∷ rest) w' run good = run_good run.0 steps rest w' run.2 (allowed_good w s answer run.0 run.1 good)
run_good w [] (answer ∷ rest) w' run good = absurd run
run_good w (s ∷ steps) [] w' run good = absurd run

pub new_good : (setting : WorldSetting) (is_message : Bytes → Bool) (names : List Bytes) → GoodWorld (new setting is_message names)
new_good setting is_message [] = tt
new_good setting is_message (name ∷ names) = (λ up. record { none_more = refl; none_less = refl; once = once_none; added = tt }, new_good setting is_message names)

pub each-of : {X : Type 0} (P : X → Type 0) (xs : List X) → AllByRecursion P xs → (x : X) → Contains xs x → P x
each-of P xs h x c = subst P c.2 (each-Contains P xs h c.0 x c.1)
