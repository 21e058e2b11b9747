-- Where want of memory may not stand in place of an answer (this project).
use Rattle.std.specs.Prelude.{ℕ, ◌≡◌, Bool, true, Result, Err}
use Rattle.sup_specs.specs.Values.{Bytes}
use Rattle.sup_replica.specs.declared.event.Event.{Event}
use Rattle.sup_replica.specs.declared.event.Act.TheVariants.{Event as Of, Stop}
use Rattle.sup_replica.specs.declared.refusal.Refusal.{Refusal}
use Rattle.sup_replica.specs.Refusals.{is_found_first}
use Rattle.sup_model.specs.declared.step.Step.TheVariants.{Node as AtNode}
use Rattle.sup_model.specs.Worlds.{ModelWorld, ModelAnswer, step}
use Rattle.sup_model.specs.Runs.{answer_of, ModelAllows}

-- a stop is answered as the model says
abbrev pub StopsAreAnswered : Type 0
StopsAreAnswered =
    (w : ModelWorld) (at : Bytes) (now : ℕ) (saves : Bool) (answer : Result ModelAnswer Refusal) (w' : ModelWorld) → ModelAllows w (AtNode at Stop now saves) answer w'
    → answer ≡ answer_of (step w (AtNode at Stop now saves))

-- an event that the first checks refuse is refused so
abbrev pub FirstChecksComeFirst : Type 0
FirstChecksComeFirst =
    (w : ModelWorld) (at : Bytes) (event : Event) (now : ℕ) (saves : Bool) (refusal : Refusal) (answer : Result ModelAnswer Refusal) (w' : ModelWorld)
    → step w (AtNode at (Of event) now saves) ≡ Err refusal → is_found_first refusal ≡ true → ModelAllows w (AtNode at (Of event) now saves) answer w' → answer ≡ Err refusal
