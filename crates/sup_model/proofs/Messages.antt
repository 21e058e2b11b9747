-- Which bytes are a message is the same in each world of a run.
use Rattle.std.specs.Prelude.{◌≡◌, ◌==◌, not, List, [], ◌∷◌, Result, Ok, Err, refl, unwrap_or}
use Rattle.std.proofs.Common.{◌∙◌, ap}
use mathlib.Core.Logic.{inl, inr}
use Rattle.sup_replica.specs.declared.refusal.Refusal.{Refusal}
use Rattle.sup_replica.specs.declared.refusal.Refusal.TheVariants.{Down, UnknownNode, BadMessage, NoSuchMessage}
use Rattle.sup_replica.specs.Checks.{refused_if, then_do}
use Rattle.sup_replica.specs.Nodes.{Message, ActOutcome, by_operations}
use Rattle.sup_replica.specs.Acts.{act_step, deliver, kept_by}
use Rattle.sup_model.specs.declared.step.Step.{Step}
use Rattle.sup_model.specs.declared.step.Step.TheVariants.{Node as AtNode, Deliver as Delivery, Raw}
use Rattle.sup_model.specs.Worlds.{Ops, ModelWorld, ModelSite, ModelAnswer, WorldStepped, site_of, message_of, or_refused, acted, target_is_here, step}
use Rattle.sup_model.specs.Runs.{world_after, ModelAllows, ModelRun}
use Rattle.sup_model.proofs.Afters.{After, after-refused_if, after-then_do, after-or_refused}

abbrev TellsAlike : ModelWorld → WorldStepped → Type 0
TellsAlike w s = s.world.is_message ≡ w.is_message

done : {A : Type 0} (x : Result A Refusal) → After (λ _. Unit {0}) x
done (Ok a) = tt
done (Err refusal) = tt

step_same : (w : ModelWorld) (s : Step) → After (TellsAlike w) (step w s)
step_same w (AtNode at act now saves) =
    let acts = λ (site : ModelSite). kept_by saves (act_step by_operations w.weigher site.node act now) in
    let next = λ (site : ModelSite) (o : ActOutcome Ops). let x : Result WorldStepped Refusal = Ok (acted w site o) in x in
    let rest = λ (site : ModelSite). then_do (acts site) (next site) in
    after-or_refused (TellsAlike w) (site_of w at) UnknownNode (λ site. refused_if (not (target_is_here w act)) UnknownNode (rest site)) (λ site e.
    after-refused_if (TellsAlike w) (not (target_is_here w act)) UnknownNode (rest site)
    (after-then_do (λ _. Unit {0}) (TellsAlike w) (acts site) (next site) (done (acts site)) (λ o h. refl)))
step_same w (Delivery from k at drop now saves) =
    let comes = λ (m : Message Ops) (receiver : ModelSite). kept_by saves (deliver by_operations w.weigher receiver.node from m (drop == 0)) in
    let next = λ (receiver : ModelSite) (o : ActOutcome Ops). let x : Result WorldStepped Refusal = Ok (acted w receiver o) in x in
    let at_receiver = λ (m : Message Ops) (receiver : ModelSite). then_do (comes m receiver) (next receiver) in
    let with_message = λ (m : Message Ops). or_refused (site_of w (unwrap_or at m.to)) UnknownNode (at_receiver m) in
    let with_sender = λ (sender : ModelSite). or_refused (message_of sender k) NoSuchMessage with_message in
    after-or_refused (TellsAlike w) (site_of w from) UnknownNode with_sender (λ sender _.
    after-or_refused (TellsAlike w) (message_of sender k) NoSuchMessage with_message (λ m _.
    after-or_refused (TellsAlike w) (site_of w (unwrap_or at m.to)) UnknownNode (at_receiver m) (λ receiver _.
    after-then_do (λ _. Unit {0}) (TellsAlike w) (comes m receiver) (next receiver) (done (comes m receiver)) (λ o h. refl))))
step_same w (Raw at bytes) =
    let none : Result WorldStepped Refusal = Err NoSuchMessage in
    let inner = refused_if (not (w.is_message bytes)) BadMessage none in
    after-or_refused (TellsAlike w) (site_of w at) UnknownNode (λ site. refused_if (not site.node.up) Down inner) (λ site _.
    after-refused_if (TellsAlike w) (not site.node.up) Down inner (after-refused_if (TellsAlike w) (not (w.is_message bytes)) BadMessage none tt))

after_same : (w : ModelWorld) (r : Result WorldStepped Refusal) → After (TellsAlike w) r → (world_after w r).is_message ≡ w.is_message
after_same w (Ok s) h = h
after_same w (Err refusal) h = refl

pub allowed_same : (w : ModelWorld) (s : Step) (answer : Result ModelAnswer Refusal) (after : ModelWorld) → ModelAllows w s answer after → after.is_message ≡ w.is_message
allowed_same w s answer after (inl h) = ap (λ (v : ModelWorld). v.is_message) h.1 ∙ after_same w (step w s) (step_same w s)
allowed_same w s answer after (inr (inl h)) = ap (λ (v : ModelWorld). v.is_message) h.2
allowed_same w s answer after (inr (inr h)) = ap (λ (v : ModelWorld). v.is_message) h.3

pub run_same : (w : ModelWorld) (steps : List Step) (answers : List (Result ModelAnswer Refusal)) (after : ModelWorld) → ModelRun w steps answers after → after.is_message ≡ w.is_message
run_same w [] [] after run = ap (λ (v : ModelWorld). v.is_message) run
run_same w (s ∷ steps) (answer ∷ rest) after run = run_same run.0 steps rest after run.2 ∙ allowed_same w s answer run.0 run.1
run_same w [] (answer ∷ rest) after run = absurd run
run_same w (s ∷ steps) [] after run = absurd run
