-- Refusals that a step of the model never is: no check of a ship or a delivery says that the receiver is up to date.
use Rattle.std.specs.Prelude.{◌≡◌, ℕ, ◌==◌, Bool, true, false, not, ◌&&◌, [], Option, Some, None, Result, Ok, Err, refl}
use Rattle.std.proofs.Common.{subst}
use Rattle.sup_specs.specs.Values.{Bytes}
use Rattle.sup_replica.specs.declared.event.Event.TheVariants.{Ship}
use Rattle.sup_replica.specs.declared.event.Act.TheVariants.{Event as Of}
use Rattle.sup_replica.specs.declared.refusal.Refusal.{Refusal}
use Rattle.sup_replica.specs.declared.refusal.Refusal.TheVariants.{Down, UnknownNode, NoSuchMessage, BadMessage, WrongReceiver, CountSpent, KeepFailed, UpToDate}
use Rattle.sup_replica.specs.Checks.{refused_if, then_do}
use Rattle.sup_replica.specs.declared.done.Reply.TheVariants.{Sent as IsSent}
use Rattle.sup_replica.specs.Nodes.{Message, ActOutcome, delta, by_operations, is_named}
use Rattle.sup_replica.specs.Acts.{act_step, deliver, takes, kept_by}
use Rattle.sup_replica.specs.Steps.{passes_greatest, only}
use Rattle.sup_model.specs.declared.step.Step.TheVariants.{Node as AtNode, Deliver as Delivery}
use Rattle.sup_model.specs.Worlds.{Ops, ModelWorld, ModelSite, WorldStepped, step, site_of, or_refused, acted, message_of, target_is_here}

-- it isn't refused so
abbrev pub Unlike : {A : Type 0} → Refusal → Result A Refusal → Type 0
Unlike q (Ok a) = Unit {0}
Unlike q (Err r) = r ≡ q → ⊥

unlike-refused_if : {A : Type 0} (q : Refusal) (b : Bool) (r : Refusal) (rest : Result A Refusal) → (r ≡ q → ⊥) → Unlike q rest → Unlike q (refused_if b r rest)
unlike-refused_if q true r rest n h = n
unlike-refused_if q false r rest n h = h

unlike-then_do : {A B : Type 0} (q : Refusal) (x : Result A Refusal) (next : A → Result B Refusal) → Unlike q x → ((a : A) → Unlike q (next a)) → Unlike q (then_do x next)
unlike-then_do q (Ok a) next h f = f a
unlike-then_do q (Err r) next h f = h

unlike-or_refused : {A B : Type 0} (q : Refusal) (o : Option A) (r : Refusal) (next : A → Result B Refusal) → (r ≡ q → ⊥) → ((a : A) → Unlike q (next a)) → Unlike q (or_refused o r next)
unlike-or_refused q None r next n f = n
unlike-or_refused q (Some a) r next n f = f a

kept_unlike : (saves : Bool) (x : Result (ActOutcome Ops) Refusal) → Unlike UpToDate x → Unlike UpToDate (kept_by saves x)
kept_unlike saves x h =
    unlike-then_do UpToDate x (λ (o : ActOutcome Ops). let y : Result (ActOutcome Ops) Refusal = refused_if (passes_greatest o.node) CountSpent (refused_if (o.saves && not saves) KeepFailed (Ok o)) in y) h (λ o.
    unlike-refused_if UpToDate (passes_greatest o.node) CountSpent (refused_if (o.saves && not saves) KeepFailed (Ok o)) (λ e. cc)
    (unlike-refused_if UpToDate (o.saves && not saves) KeepFailed (Ok o) (λ e. cc) tt))

ship_unlike : (w : ModelWorld) (a b : Bytes) → Unlike UpToDate (step w (AtNode a (Of (Ship b)) 0 true))
ship_unlike w a b =
    let act = λ (site : ModelSite). act_step by_operations w.weigher site.node (Of (Ship b)) 0 in
    let rest = λ (site : ModelSite). then_do (kept_by true (act site)) (λ (o : ActOutcome Ops). let x : Result WorldStepped Refusal = Ok (acted w site o) in x) in
    unlike-or_refused UpToDate (site_of w a) UnknownNode (λ site. refused_if (not (target_is_here w (Of (Ship b)))) UnknownNode (rest site)) (λ e. cc) (λ site.
    let sent : Result (ActOutcome Ops) Refusal = Ok (only site.node IsSent [] (Some (record { to = b; kind = delta; content = site.node.known }))) in
    unlike-refused_if UpToDate (not (target_is_here w (Of (Ship b)))) UnknownNode (rest site) (λ e. cc)
    (unlike-then_do UpToDate (kept_by true (act site)) (λ (o : ActOutcome Ops). let x : Result WorldStepped Refusal = Ok (acted w site o) in x)
    (kept_unlike true (act site)
    (unlike-refused_if UpToDate (not site.node.up) Down (refused_if (is_named b site.node.name) UnknownNode sent) (λ e. cc)
    (unlike-refused_if UpToDate (is_named b site.node.name) UnknownNode sent (λ e. cc) tt)))
    (λ o. tt)))

pub ship_never_up_to_date : (w : ModelWorld) (a b : Bytes) → step w (AtNode a (Of (Ship b)) 0 true) ≡ Err UpToDate → ⊥
ship_never_up_to_date w a b e = subst (Unlike UpToDate) e (ship_unlike w a b) refl

arrival_unlike : (w : ModelWorld) (from : Bytes) (k : ℕ) → Unlike UpToDate (step w (Delivery from k None 0 0 true))
arrival_unlike w from k =
    let got = λ (m : Message Ops) (r : ModelSite). deliver by_operations w.weigher r.node from m (0 == 0) in
    let next = λ (r : ModelSite) (o : ActOutcome Ops). let x : Result WorldStepped Refusal = Ok (acted w r o) in x in
    let rest = λ (m : Message Ops) (r : ModelSite). then_do (kept_by true (got m r)) (next r) in
    let with_message = λ (m : Message Ops). or_refused (site_of w m.to) UnknownNode (rest m) in
    unlike-or_refused UpToDate (site_of w from) UnknownNode (λ s. or_refused (message_of s k) NoSuchMessage with_message) (λ e. cc) (λ s.
    unlike-or_refused UpToDate (message_of s k) NoSuchMessage with_message (λ e. cc) (λ m.
    unlike-or_refused UpToDate (site_of w m.to) UnknownNode (rest m) (λ e. cc) (λ r.
    let taken : Result (ActOutcome Ops) Refusal = Ok (takes by_operations w.weigher r.node from m.kind m.content) in
    let third = refused_if (not (is_named m.to r.node.name)) WrongReceiver taken in
    unlike-then_do UpToDate (kept_by true (got m r)) (next r)
    (kept_unlike true (got m r)
    (unlike-refused_if UpToDate (not r.node.up) Down (refused_if (not (0 == 0)) BadMessage third) (λ e. cc)
    (unlike-refused_if UpToDate (not (0 == 0)) BadMessage third (λ e. cc)
    (unlike-refused_if UpToDate (not (is_named m.to r.node.name)) WrongReceiver taken (λ e. cc) tt))))
    (λ o. tt))))

pub arrival_never_up_to_date : (w : ModelWorld) (from : Bytes) (k : ℕ) → step w (Delivery from k None 0 0 true) ≡ Err UpToDate → ⊥
arrival_never_up_to_date w from k e = subst (Unlike UpToDate) e (arrival_unlike w from k) refl
