-- The effects of answers fit what runs, and what they leave running is what is kept, in its order: over nodes, worlds and runs.
use Rattle.std.specs.Prelude.{◌≡◌, ℕ, ◌+◌, ◌==◌, Bool, true, false, not, ◌&&◌, List, [], ◌∷◌, ◌++◌, map, reverse, Option, Some, None, Result, Ok, Err, refl, if◌then◌else◌, unwrap_or}
use Rattle.std.specs.List.{AllByRecursion}
use Rattle.std.specs.Map.{lookup}
use Rattle.std.specs.Str.{bytes_eq}
use Rattle.std.specs.Cmp.{Equal-is, tied_itself}
use Rattle.std.specs.Ordering.{is_eq}
use Rattle.std.proofs.Common.{sym, ap, ◌∙◌, subst}
use Rattle.std.proofs.lemmas.Bool.{and_from}
use Rattle.std.proofs.lemmas.Cmp.{eq_by_cmp_equiv}
use mathlib.Core.Logic.{inl, inr}
use Rattle.sup_specs.specs.Values.{Bytes}
use Rattle.sup_specs.specs.declared.child.ExitReason.{ExitReason}
use Rattle.sup_specs.specs.OrderLaws.{text_total, text_tie}
use Rattle.sup_tables.specs.Operations.{Operation, live, covers}
use Rattle.sup_tables.specs.Makers.{drop_member, finish_child}
use Rattle.sup_local_sup.specs.declared.leaving.Leaving.TheVariants.{Finished as finished, GaveUp as gave_up}
use Rattle.sup_local_sup.specs.declared.leaving.Ruling.{Ruling}
use Rattle.sup_local_sup.specs.declared.leaving.Ruling.TheVariants.{Stale, Restart as Again, Finish, GiveUp}
use Rattle.sup_local_sup.specs.declared.effect.Incarnation.{Incarnation}
use Rattle.sup_local_sup.specs.Keeping.{stop}
use Rattle.sup_local_sup.specs.declared.kept.Entry.{Entry}
use Rattle.sup_local_sup.specs.Planning.{left, restart_effects, ruling, ruling_of}
use Rattle.sup_local_sup.specs.Supervising.{Supervisor, kept_run, others, wanted_effects}
use Rattle.sup_placement.specs.Place.{Weigher}
use Rattle.sup_replica.specs.declared.event.Event.{Event}
use Rattle.sup_replica.specs.declared.event.Event.TheVariants.{Join, Leave, Drain, Start, Replace, Delete, Register, Unregister, Exit, Ship, Push, Deliver}
use Rattle.sup_replica.specs.declared.event.Act.TheVariants.{Event as Of, Stop, Restart}
use Rattle.sup_replica.specs.declared.event.Act.{Act}
use Rattle.sup_replica.specs.declared.done.Reply.{Reply}
use Rattle.sup_replica.specs.declared.done.Reply.TheVariants.{Sent, Stopped, Boot}
use Rattle.sup_replica.specs.declared.refusal.Refusal.{Refusal}
use Rattle.sup_replica.specs.declared.refusal.Refusal.TheVariants.{Down, AlreadyUp, UnknownNode, BadMessage, WrongReceiver, NoSuchMessage}
use Rattle.sup_replica.specs.Acts.{reconciled, stopped, booted, act_step, absorbs, takes, deliver, kept_by, keeps}
use Rattle.sup_replica.specs.Checks.{refused_if, then_do}
use Rattle.sup_replica.specs.Nodes.{Node, Kind, delta, push, ack, Message, ActOutcome, by_operations, is_named}
use Rattle.sup_replica.specs.Steps.{wanted, command, exit_step, up_step, with_own, only, push_step}
use Rattle.sup_model.specs.declared.step.Step.{Step}
use Rattle.sup_model.specs.declared.step.Step.TheVariants.{Node as AtNode, Deliver as Delivery, Raw}
use Rattle.sup_model.specs.Fitting.{fits, fits_at, running_at, running_by}
use Rattle.sup_model.specs.Runs.{world_after, answer_of, ModelAllows, ModelRun}
use Rattle.sup_model.specs.Starts.{Run, left_by, runs_of, started_by, started_with, started_at, without}
use Rattle.sup_model.specs.Worlds.{WorldSetting, Ops, ModelWorld, ModelSite, ModelAnswer, WorldStepped, site_of, message_of, or_refused, acted, target_is_here, step, new}
use Rattle.sup_model.proofs.Afters.{After, after-refused_if, after-checked, after-then_do, after-or_refused}
use Rattle.sup_model.proofs.CleanLaws.{kept_by_after}
use Rattle.sup_model.proofs.EffectLaws.{all_stopped, restart_starts, runs_without, started_append, wanted_starts}
use Rattle.sup_model.proofs.FitLaws.{all_stops_fit, fits_both, restart_fits, wanted_fits}
use Rattle.sup_model.proofs.KeepsLaws.{Good, GoodWorld, each-find, allowed_good}
use Rattle.sup_model.proofs.OnceLaws.{IsOnce, once_left, once_none}
use Rattle.sup_replica.proofs.WantedLaws.{wanted_rises}

abbrev runs_at : Node Ops → List Run
runs_at n = runs_of n.supervisor.kept

-- the effects of what a node does lead from what it kept to what it keeps, and fit what still ran; `ends` are those that no effect stops
record Tells (ends : Reply → List Run → List Run) (running : List Run → List Run) (n : Node Ops) (o : ActOutcome Ops) : Type 0 where
  name : o.node.name ≡ n.name
  starts : runs_at o.node ≡ started_by (ends o.done.reply (runs_at n)) o.done.effects
  fits : fits (running (runs_at n)) o.done.effects ≡ true

abbrev none_ends : Reply → List Run → List Run
none_ends reply runs = runs

abbrev all_run : List Run → List Run
all_run runs = runs

reconciles : (s : Weigher) (n : Node Ops) → IsOnce n.supervisor.kept → runs_at (reconciled by_operations s n) ≡ started_by (runs_at n) (wanted_effects n.supervisor (wanted by_operations s n))
reconciles s n once = sym (wanted_starts n.supervisor.boot n.supervisor.given n.supervisor.kept (wanted by_operations s n) (wanted_rises s n.name (live n.known)) once)

reconciling_fits : (s : Weigher) (n : Node Ops) → IsOnce n.supervisor.kept → fits (runs_at n) (wanted_effects n.supervisor (wanted by_operations s n)) ≡ true
reconciling_fits s n once = wanted_fits n.supervisor.boot n.supervisor.given n.supervisor.kept (wanted by_operations s n) (wanted_rises s n.name (live n.known)) once

command_tells : (s : Weigher) (n : Node Ops) (issued : Result Operation Refusal) (reply : Operation → Reply) → IsOnce n.supervisor.kept → After (Tells none_ends all_run n) (command by_operations s n issued reply)
command_tells s n (Ok op) reply once =
    let ws = wanted by_operations s (with_own by_operations n (op ∷ [])) in
    let rise = wanted_rises s n.name (live (n.known ++ op ∷ [])) in
    record {
      name = refl;
      starts = sym (wanted_starts n.supervisor.boot n.supervisor.given n.supervisor.kept ws rise once);
      fits = wanted_fits n.supervisor.boot n.supervisor.given n.supervisor.kept ws rise once;
    }
command_tells s n (Err r) reply once = tt

-- an exit calls for nothing where its run isn't kept
abbrev pub IsFresh : Ruling → Type 0
IsFresh Stale = ⊥
IsFresh Again = Unit {0}
IsFresh (Finish dot) = Unit {0}
IsFresh GiveUp = Unit {0}

is_there : (v : Supervisor) (reason : ExitReason) (now : ℕ) (o : Option Entry) → IsFresh (ruling_of v reason now o) → (e : Entry) × (o ≡ Some e)
is_there v reason now None fresh = absurd fresh
is_there v reason now (Some e) fresh = (e, refl)

-- a run that its exit ends is one of those that are kept
ended : (v : Supervisor) (id : Bytes) (inc : Incarnation) (reason : ExitReason) (now : ℕ) (r : Ruling) → ruling v id inc reason now ≡ r → IsFresh r → IsOnce v.kept → without id inc (runs_of v.kept) ≡ runs_of (others v.kept id)
ended v id inc reason now r is fresh once =
    let kept = is_there v reason now (kept_run v id inc) (subst IsFresh (sym is) fresh) in
    runs_without id inc v.kept kept.0 kept.1 once

finish_tells : (s : Weigher) (n : Node Ops) (id : Bytes) (inc : Incarnation) (reason : ExitReason) (now : ℕ) (r : Ruling) → ruling n.supervisor id inc reason now ≡ r → IsOnce n.supervisor.kept → After (Tells (left_by (Of (Exit id inc reason))) (running_by (Of (Exit id inc reason))) n) (exit_step by_operations s n id now r)
finish_tells s n id inc reason now Stale is once = tt
finish_tells s n id inc reason now Again is once =
    let next = lookup (bytes_eq id) n.supervisor.kept in
    record {
      name = refl;
      starts = sym (restart_starts n.supervisor id next refl);
      fits = ap (λ runs. fits runs (restart_effects n.supervisor id next)) (ended n.supervisor id inc reason now Again is tt once) ∙ restart_fits n.supervisor id next;
    }
finish_tells s n id inc reason now (Finish dot) is once =
    let v = left n.supervisor (finished id) in
    let ws = wanted by_operations s (with_own by_operations n (finish_child dot ∷ [])) in
    let rise = wanted_rises s n.name (live (n.known ++ finish_child dot ∷ [])) in
    let left_once = once_left n.supervisor.kept (finished id) once in
    let gone = ended n.supervisor id inc reason now (Finish dot) is tt once in
    record {
      name = refl;
      starts = sym (ap (λ runs. started_by runs (wanted_effects v ws)) gone ∙ wanted_starts v.boot v.given v.kept ws rise left_once);
      fits = ap (λ runs. fits runs (wanted_effects v ws)) gone ∙ wanted_fits v.boot v.given v.kept ws rise left_once;
    }
finish_tells s n id inc reason now GiveUp is once =
    let op = drop_member (live n.known) n.name in
    let v = left n.supervisor (gave_up id) in
    let ws = wanted by_operations s (with_own by_operations n (op ∷ [])) in
    let rest = others n.supervisor.kept id in
    let stopping = reverse (map stop rest) in
    let rise = wanted_rises s n.name (live (n.known ++ op ∷ [])) in
    let rest_once = once_left n.supervisor.kept (finished id) once in
    let gone = ended n.supervisor id inc reason now GiveUp is tt once in
    let none = all_stopped rest rest_once in
    record {
      name = refl;
      starts = sym (started_append (without id inc (runs_at n)) stopping (wanted_effects v ws)
          ∙ ap (λ runs. started_by (started_by runs stopping) (wanted_effects v ws)) gone
          ∙ ap (λ runs. started_by runs (wanted_effects v ws)) none
          ∙ wanted_starts v.boot v.given [] ws rise once_none);
      fits = ap (λ runs. fits runs (stopping ++ wanted_effects v ws)) gone
          ∙ fits_both (runs_of rest) stopping (wanted_effects v ws) (all_stops_fit rest rest_once)
          (ap (λ runs. fits runs (wanted_effects v ws)) none ∙ wanted_fits v.boot v.given [] ws rise once_none);
    }

push_tells : (n : Node Ops) (to : Bytes) (own : Option Ops) → After (Tells none_ends all_run n) (push_step n to own)
push_tells n to None = tt
push_tells n to (Some own) = record { name = refl; starts = refl; fits = refl }

event_tells : (s : Weigher) (n : Node Ops) (e : Event) (now : ℕ) → IsOnce n.supervisor.kept → After (Tells (left_by (Of e)) (running_by (Of e)) n) (up_step by_operations s n e now)
event_tells s n (Join info) now once = command_tells s n _ _ once
event_tells s n (Leave m) now once = command_tells s n _ _ once
event_tells s n (Drain m) now once = command_tells s n _ _ once
event_tells s n (Start id spec) now once = command_tells s n _ _ once
event_tells s n (Replace id spec) now once = command_tells s n _ _ once
event_tells s n (Delete id) now once = command_tells s n _ _ once
event_tells s n (Register name id) now once = command_tells s n _ _ once
event_tells s n (Unregister name) now once = command_tells s n _ _ once
event_tells s n (Exit id inc reason) now once = finish_tells s n id inc reason now (ruling n.supervisor id inc reason now) refl once
event_tells s n (Ship to) now once =
    let sent : Result (ActOutcome Ops) Refusal = Ok (only n Sent [] (Some (record { to = to; kind = delta; content = n.known }))) in
    after-refused_if (Tells none_ends all_run n) (is_named to n.name) UnknownNode sent (record { name = refl; starts = refl; fits = refl })
event_tells s n (Push to) now once = after-refused_if (Tells none_ends all_run n) (is_named to n.name) UnknownNode (push_step n to n.newest) (push_tells n to n.newest)
event_tells s n (Deliver bytes) now once = tt

-- what a check of a node that is up lets through
up_from : (b : Bool) → not b ≡ false → b ≡ true
up_from true e = refl
up_from false e = absurd cc

act_tells : (s : Weigher) (n : Node Ops) (a : Act) (now : ℕ) → Good s n → After (Tells (left_by a) (running_by a) n) (act_step by_operations s n a now)
act_tells s n (Of e) now good =
    after-checked (Tells (left_by (Of e)) (running_by (Of e)) n) (not n.up) Down (up_step by_operations s n e now) (λ off. event_tells s n e now (good (up_from n.up off)).once)
act_tells s n Stop now good =
    let ok : Result (ActOutcome Ops) Refusal = Ok (only (stopped n) Stopped [] None) in
    after-refused_if (Tells (left_by Stop) (running_by Stop) n) (not n.up) Down ok (record { name = refl; starts = refl; fits = refl })
act_tells s n Restart now good =
    let ok : Result (ActOutcome Ops) Refusal = Ok (keeps by_operations s (booted n) (Boot (n.supervisor.boot + 1)) None) in
    after-refused_if (Tells (left_by Restart) (running_by Restart) n) n.up AlreadyUp ok (record { name = refl; starts = reconciles s (booted n) once_none; fits = reconciling_fits s (booted n) once_none })

absorbs_tells : (s : Weigher) (n : Node Ops) (more : Ops) (letter : Option (Message Ops)) (b : Bool) → IsOnce n.supervisor.kept → Tells none_ends all_run n (absorbs by_operations s n more letter b)
absorbs_tells s n more letter true once = record { name = refl; starts = refl; fits = refl }
absorbs_tells s n more letter false once =
    let next = record n { known = n.known ++ more; count = n.count + 1 } in
    record { name = refl; starts = reconciles s next once; fits = reconciling_fits s next once }

takes_tells : (s : Weigher) (n : Node Ops) (from : Bytes) (kind : Kind) (more : Ops) → IsOnce n.supervisor.kept → Tells none_ends all_run n (takes by_operations s n from kind more)
takes_tells s n from ack more once = record { name = refl; starts = refl; fits = refl }
takes_tells s n from delta more once = absorbs_tells s n more _ (covers n.known more) once
takes_tells s n from push more once = absorbs_tells s n more _ (covers n.known more) once

deliver_tells : (s : Weigher) (n : Node Ops) (from : Bytes) (m : Message Ops) (whole : Bool) → Good s n → After (Tells none_ends all_run n) (deliver by_operations s n from m whole)
deliver_tells s n from m whole good =
    let ok : Result (ActOutcome Ops) Refusal = Ok (takes by_operations s n from m.kind m.content) in
    let third = refused_if (not (is_named m.to n.name)) WrongReceiver ok in
    after-checked (Tells none_ends all_run n) (not n.up) Down (refused_if (not whole) BadMessage third) (λ off.
    after-refused_if (Tells none_ends all_run n) (not whole) BadMessage third
    (after-refused_if (Tells none_ends all_run n) (not (is_named m.to n.name)) WrongReceiver ok (takes_tells s n from m.kind m.content (good (up_from n.up off)).once)))

-- each node keeps what was told of it
abbrev KeptWorld : (Bytes → List Run) → ModelWorld → Type 0
KeptWorld runs w = AllByRecursion (λ (s : ModelSite). runs_at s.node ≡ runs s.node.name) w.sites

abbrev next_runs : (Bytes → List Run) → Step → Result ModelAnswer Refusal → Bytes → List Run
next_runs runs step (Ok answer) name = if is_named name answer.at then started_with step answer (runs name) else runs name
next_runs runs step (Err refusal) name = runs name

-- an answer's effects fit what ran
abbrev FitsAnswer : (Bytes → List Run) → Step → Result ModelAnswer Refusal → Type 0
FitsAnswer runs step (Ok answer) = fits (running_at step (runs answer.at)) answer.done.effects ≡ true
FitsAnswer runs step (Err refusal) = Unit {0}

each-changed : {X : Type 0} (P Q : X → Type 0) (p : X → Bool) (new : X) → Q new → ((x : X) → p x ≡ false → P x → Q x) → (xs : List X) → AllByRecursion P xs → AllByRecursion Q (map (λ x. if p x then new else x) xs)
each-changed P Q p new h other [] a = tt
each-changed P Q p new h other (x ∷ xs) a =
    (elim (p x) as (λ b. p x ≡ b → Q (if b then new else x)) [ true ↦ λ e. h | false ↦ λ e. other x e a.0 ] refl, each-changed P Q p new h other xs a.1)

named_itself : (a : Bytes) → is_named a a ≡ true
named_itself a = ap is_eq (tied_itself text_total a)

module _ (runs : Bytes → List Run) (w : ModelWorld) (st : Step) where
  abbrev TellsStep : WorldStepped → Type 0
  TellsStep x = KeptWorld (next_runs runs st (Ok x.answer)) x.world × FitsAnswer runs st (Ok x.answer)

  acted_tells : (site : ModelSite) (o : ActOutcome Ops) → KeptWorld runs w → runs_at site.node ≡ runs site.node.name → o.node.name ≡ site.node.name → runs_at o.node ≡ started_with st (acted w site o).answer (runs_at site.node)
      → fits (running_at st (runs_at site.node)) o.done.effects ≡ true → TellsStep (acted w site o)
  acted_tells site o kept own name starts fit = (
    each-changed (λ (s : ModelSite). runs_at s.node ≡ runs s.node.name) (λ (s : ModelSite). runs_at s.node ≡ next_runs runs st (Ok (acted w site o).answer) s.node.name) _ _
        (starts ∙ ap (started_with st (acted w site o).answer) (own ∙ ap runs (sym name))
        ∙ ap (λ b. if b then started_with st (acted w site o).answer (runs o.node.name) else runs o.node.name) (sym (ap (is_named o.node.name) (sym name) ∙ named_itself o.node.name)))
        (λ s off h. h ∙ ap (λ b. if b then started_with st (acted w site o).answer (runs s.node.name) else runs s.node.name)
        (sym ((eq_by_cmp_equiv text_total).symm s.node.name site.node.name ∙ ap (λ a. is_named a s.node.name) (sym name) ∙ off)))
        w.sites kept,
    ap (λ rs. fits (running_at st rs) o.done.effects) (sym own) ∙ fit,
  )

both_find : (w : ModelWorld) (runs : Bytes → List Run) (name : Bytes) (site : ModelSite) → KeptWorld runs w → site_of w name ≡ Some site → runs_at site.node ≡ runs site.node.name
both_find w runs name site kept e = each-find (λ (s : ModelSite). runs_at s.node ≡ runs s.node.name) (λ s. is_named name s.node.name) w.sites site kept e

step_tells : (runs : Bytes → List Run) (w : ModelWorld) (st : Step) → GoodWorld w → KeptWorld runs w → After (TellsStep runs w st) (step w st)
step_tells runs w (AtNode at act now saves) good kept =
    let P = TellsStep runs w (AtNode at act now saves) in
    let done = λ (site : ModelSite). kept_by saves (act_step by_operations w.weigher site.node act now) in
    let next = λ (site : ModelSite) (o : ActOutcome Ops). let x : Result WorldStepped Refusal = Ok (acted w site o) in x in
    let rest = λ (site : ModelSite). then_do (done site) (next site) in
    after-or_refused P (site_of w at) UnknownNode (λ site. refused_if (not (target_is_here w act)) UnknownNode (rest site)) (λ site e.
    after-refused_if P (not (target_is_here w act)) UnknownNode (rest site)
    (after-then_do (Tells (left_by act) (running_by act) site.node) P (done site) (next site)
    (kept_by_after (Tells (left_by act) (running_by act) site.node) saves (act_step by_operations w.weigher site.node act now)
    (act_tells w.weigher site.node act now (each-find (λ (s : ModelSite). Good w.weigher s.node) (λ s. is_named at s.node.name) w.sites site good e)))
    (λ o h. acted_tells runs w (AtNode at act now saves) site o kept (both_find w runs at site kept e) h.name h.starts h.fits)))
step_tells runs w (Delivery from k at drop now saves) good kept =
    let P = TellsStep runs w (Delivery from k at drop now saves) in
    let arrives = λ (m : Message Ops) (receiver : ModelSite). deliver by_operations w.weigher receiver.node from m (drop == 0) in
    let next = λ (receiver : ModelSite) (o : ActOutcome Ops). let x : Result WorldStepped Refusal = Ok (acted w receiver o) in x in
    let at_receiver = λ (m : Message Ops) (receiver : ModelSite). then_do (kept_by saves (arrives m receiver)) (next receiver) in
    let with_message = λ (m : Message Ops). or_refused (site_of w (unwrap_or at m.to)) UnknownNode (at_receiver m) in
    let with_sender = λ (sender : ModelSite). or_refused (message_of sender k) NoSuchMessage with_message in
    after-or_refused P (site_of w from) UnknownNode with_sender (λ sender _.
    after-or_refused P (message_of sender k) NoSuchMessage with_message (λ m _.
    after-or_refused P (site_of w (unwrap_or at m.to)) UnknownNode (at_receiver m) (λ receiver e.
    after-then_do (Tells none_ends all_run receiver.node) P (kept_by saves (arrives m receiver)) (next receiver)
    (kept_by_after (Tells none_ends all_run receiver.node) saves (arrives m receiver)
    (deliver_tells w.weigher receiver.node from m (drop == 0) (each-find (λ (s : ModelSite). Good w.weigher s.node) (λ s. is_named (unwrap_or at m.to) s.node.name) w.sites receiver good e)))
    (λ o h. acted_tells runs w (Delivery from k at drop now saves) receiver o kept (both_find w runs (unwrap_or at m.to) receiver kept e) h.name h.starts h.fits))))
step_tells runs w (Raw at bytes) good kept =
    let P = TellsStep runs w (Raw at bytes) in
    let none : Result WorldStepped Refusal = Err NoSuchMessage in
    let inner = refused_if (not (w.is_message bytes)) BadMessage none in
    after-or_refused P (site_of w at) UnknownNode (λ site. refused_if (not site.node.up) Down inner) (λ site _.
    after-refused_if P (not site.node.up) Down inner (after-refused_if P (not (w.is_message bytes)) BadMessage none tt))

-- a step, answered as it may be
allowed_tells : (runs : Bytes → List Run) (w : ModelWorld) (s : Step) (answer : Result ModelAnswer Refusal) (w' : ModelWorld) → ModelAllows w s answer w' → GoodWorld w → KeptWorld runs w → KeptWorld (next_runs runs s answer) w'
allowed_tells runs w s answer w' (inl h) good kept =
    subst (λ (a : Result ModelAnswer Refusal). KeptWorld (next_runs runs s a) w') (sym h.0)
    (subst (KeptWorld (next_runs runs s (answer_of (step w s)))) (sym h.1) (go (step w s) (step_tells runs w s good kept)))
  where
    go : (r : Result WorldStepped Refusal) → After (TellsStep runs w s) r → KeptWorld (next_runs runs s (answer_of r)) (world_after w r)
    go (Ok x) t = t.0
    go (Err r) t = kept
allowed_tells runs w s answer w' (inr (inl h)) good kept = subst (λ (a : Result ModelAnswer Refusal). KeptWorld (next_runs runs s a) w') (sym h.0) (subst (KeptWorld runs) (sym h.2) kept)
allowed_tells runs w s answer w' (inr (inr h)) good kept = subst (λ (a : Result ModelAnswer Refusal). KeptWorld (next_runs runs s a) w') (sym h.0) (subst (KeptWorld runs) (sym h.3) kept)

allowed_fits : (runs : Bytes → List Run) (w : ModelWorld) (s : Step) (answer : Result ModelAnswer Refusal) (w' : ModelWorld) → ModelAllows w s answer w' → GoodWorld w → KeptWorld runs w → FitsAnswer runs s answer
allowed_fits runs w s answer w' (inl h) good kept = subst (FitsAnswer runs s) (sym h.0) (go (step w s) (step_tells runs w s good kept))
  where
    go : (r : Result WorldStepped Refusal) → After (TellsStep runs w s) r → FitsAnswer runs s (answer_of r)
    go (Ok x) t = t.1
    go (Err r) t = tt
allowed_fits runs w s answer w' (inr (inl h)) good kept = subst (FitsAnswer runs s) (sym h.0) tt
allowed_fits runs w s answer w' (inr (inr h)) good kept = subst (FitsAnswer runs s) (sym h.0) tt

fits_first : (runs : Bytes → List Run) (s : Step) (steps : List Step) (answer : Result ModelAnswer Refusal) (answers : List (Result ModelAnswer Refusal)) (name : Bytes)
    → FitsAnswer runs s answer → fits_at name (next_runs runs s answer name) steps answers ≡ true → fits_at name (runs name) (s ∷ steps) (answer ∷ answers) ≡ true
fits_first runs s steps (Ok a) answers name here later = by (is_named name a.at) refl later
  where
    by : (b : Bool) → is_named name a.at ≡ b → fits_at name (if b then started_with s a (runs name) else runs name) steps answers ≡ true
        → (if b then fits (running_at s (runs name)) a.done.effects && fits_at name (started_with s a (runs name)) steps answers else fits_at name (runs name) steps answers) ≡ true
    by true is l = and_from _ _ (ap (λ at. fits (running_at s (runs at)) a.done.effects) (text_tie name a.at ((Equal-is _).0 is)) ∙ here) l
    by false is l = l
fits_first runs s steps (Err r) answers name here later = later

later : (runs : Bytes → List Run) (s : Step) (steps : List Step) (answer : Result ModelAnswer Refusal) (answers : List (Result ModelAnswer Refusal)) (name : Bytes)
    → started_at name (next_runs runs s answer name) steps answers ≡ started_at name (runs name) (s ∷ steps) (answer ∷ answers)
later runs s steps (Ok a) answers name = refl
later runs s steps (Err r) answers name = refl

-- and a run of them
run_tells : (runs : Bytes → List Run) (w : ModelWorld) (steps : List Step) (answers : List (Result ModelAnswer Refusal)) (w' : ModelWorld) → ModelRun w steps answers w' → GoodWorld w → KeptWorld runs w → KeptWorld (λ name. started_at name (runs name) steps answers) w'
run_tells runs w [] [] w' run good kept = subst (KeptWorld runs) (sym run) kept
run_tells runs w (s ∷ steps) (answer ∷ rest) w' run good kept =
    each (run_tells (next_runs runs s answer) run.0 steps rest w' run.2 (allowed_good w s answer run.0 run.1 good) (allowed_tells runs w s answer run.0 run.1 good kept))
  where
    go : (sites : List ModelSite) → AllByRecursion (λ (t : ModelSite). runs_at t.node ≡ started_at t.node.name (next_runs runs s answer t.node.name) steps rest) sites
        → AllByRecursion (λ (t : ModelSite). runs_at t.node ≡ started_at t.node.name (runs t.node.name) (s ∷ steps) (answer ∷ rest)) sites
    go [] a = tt
    go (t ∷ sites) a = (a.0 ∙ later runs s steps answer rest t.node.name, go sites a.1)

    each : KeptWorld (λ name. started_at name (next_runs runs s answer name) steps rest) w' → KeptWorld (λ name. started_at name (runs name) (s ∷ steps) (answer ∷ rest)) w'
    each a = go w'.sites a
run_tells runs w [] (answer ∷ rest) w' run good kept = absurd run
run_tells runs w (s ∷ steps) [] w' run good kept = absurd run

new_kept : (setting : WorldSetting) (is_message : Bytes → Bool) (names : List Bytes) → KeptWorld (λ name. []) (new setting is_message names)
new_kept setting is_message [] = tt
new_kept setting is_message (name ∷ names) = (refl, new_kept setting is_message names)

pub starts : (setting : WorldSetting) (is_message : Bytes → Bool) (names : List Bytes) (steps : List Step) (answers : List (Result ModelAnswer Refusal)) (w : ModelWorld) → ModelRun (new setting is_message names) steps answers w → GoodWorld (new setting is_message names)
    → AllByRecursion (λ (a : ModelSite). runs_of a.node.supervisor.kept ≡ started_at a.node.name [] steps answers) w.sites
starts setting is_message names steps answers w run good = run_tells (λ name. []) (new setting is_message names) steps answers w run good (new_kept setting is_message names)

run_fits : (runs : Bytes → List Run) (w : ModelWorld) (steps : List Step) (answers : List (Result ModelAnswer Refusal)) (w' : ModelWorld) → ModelRun w steps answers w' → GoodWorld w → KeptWorld runs w → (name : Bytes) → fits_at name (runs name) steps answers ≡ true
run_fits runs w [] [] w' run good kept name = refl
run_fits runs w (s ∷ steps) (answer ∷ rest) w' run good kept name =
    fits_first runs s steps answer rest name (allowed_fits runs w s answer run.0 run.1 good kept)
    (run_fits (next_runs runs s answer) run.0 steps rest w' run.2 (allowed_good w s answer run.0 run.1 good) (allowed_tells runs w s answer run.0 run.1 good kept) name)
run_fits runs w [] (answer ∷ rest) w' run good kept name = absurd run
run_fits runs w (s ∷ steps) [] w' run good kept name = absurd run

pub fit : (setting : WorldSetting) (is_message : Bytes → Bool) (names : List Bytes) (steps : List Step) (answers : List (Result ModelAnswer Refusal)) (w : ModelWorld) → ModelRun (new setting is_message names) steps answers w → GoodWorld (new setting is_message names)
    → (name : Bytes) → fits_at name [] steps answers ≡ true
fit setting is_message names steps answers w run good name = run_fits (λ name. []) (new setting is_message names) steps answers w run good (new_kept setting is_message names) name
