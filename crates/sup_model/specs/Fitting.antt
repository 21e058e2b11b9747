-- That a node's effects fit what runs when each of them is carried out (this project).
use Rattle.std.specs.Prelude.{Bool, true, ◌&&◌, not, List, [], ◌∷◌, Result, Ok, Err, if◌then◌else◌}
use Rattle.std.specs.List.{list_any}
use Rattle.std.specs.Str.{bytes_eq}
use Rattle.sup_specs.specs.Values.{Bytes}
use Rattle.sup_local_sup.specs.declared.effect.Effect.{Effect}
use Rattle.sup_local_sup.specs.declared.effect.Effect.TheVariants.{Stop as Stops, Start as Starts}
use Rattle.sup_replica.specs.declared.event.Event.TheVariants.{Exit}
use Rattle.sup_replica.specs.declared.event.Act.{Act}
use Rattle.sup_replica.specs.declared.event.Act.TheVariants.{Event as Of, Stop, Restart}
use Rattle.sup_replica.specs.declared.refusal.Refusal.{Refusal}
use Rattle.sup_replica.specs.Nodes.{is_named}
use Rattle.sup_model.specs.declared.step.Step.{Step}
use Rattle.sup_model.specs.declared.step.Step.TheVariants.{Node as AtNode, Deliver as Delivery, Raw}
use Rattle.sup_model.specs.Starts.{Run, is_run, started_with, with_start, without}
use Rattle.sup_model.specs.Worlds.{ModelAnswer}

-- what still runs at a step: a run that exits has ended, and at a node that stops or boots none is left
abbrev pub running_by : Act → List Run → List Run
running_by (Of (Exit id inc reason)) runs = without id inc runs
running_by (Of event) runs = runs
running_by Stop runs = []
running_by Restart runs = []

abbrev pub running_at : Step → List Run → List Run
running_at (AtNode at act now saves) runs = running_by act runs
running_at (Delivery from k at drop now saves) runs = runs
running_at (Raw at bytes) runs = runs

abbrev pub has_run : Bytes → List Run → Bool
has_run id runs = list_any (λ run. bytes_eq id run.id) runs

-- where these run, each stop is of a run that does then, and each start of a child of which none does
abbrev pub fits : List Run → List Effect → Bool
fits runs [] = true
fits runs (Stops id inc ∷ effects) = list_any (is_run id inc) runs && fits (without id inc runs) effects
fits runs (Starts id inc spec ∷ effects) = not (has_run id runs) && fits (with_start (record { id = id; inc = inc; spec = spec }) runs) effects

-- the effects of one node's answers fit, where these ran
abbrev pub fits_at : Bytes → List Run → List Step → List (Result ModelAnswer Refusal) → Bool
fits_at name runs [] answers = true
fits_at name runs (step ∷ steps) [] = true
fits_at name runs (step ∷ steps) (Ok answer ∷ answers) =
    if is_named name answer.at
    then fits (running_at step runs) answer.done.effects && fits_at name (started_with step answer runs) steps answers
    else fits_at name runs steps answers
fits_at name runs (step ∷ steps) (Err refusal ∷ answers) = fits_at name runs steps answers
