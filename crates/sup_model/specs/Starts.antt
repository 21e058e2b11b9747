-- Which runs of children the effects of a node's answers leave, in the order of the children's first starts (this project).
use Rattle.std.specs.Prelude.{Bool, ◌&&◌, not, List, [], ◌∷◌, filter, map, Result, Ok, Err, if◌then◌else◌}
use Rattle.std.specs.Str.{bytes_eq}
use Rattle.sup_specs.specs.Values.{Bytes}
use Rattle.sup_specs.specs.declared.child.ChildSpec.{ChildSpec}
use Rattle.sup_local_sup.specs.declared.effect.Effect.{Effect}
use Rattle.sup_local_sup.specs.declared.effect.Effect.TheVariants.{Stop as Stops, Start as Starts}
use Rattle.sup_local_sup.specs.declared.effect.Incarnation.{Incarnation}
use Rattle.sup_local_sup.specs.Keeping.{KeptChild}
use Rattle.sup_local_sup.specs.Supervising.{inc_eq}
use Rattle.sup_replica.specs.declared.event.Event.TheVariants.{Exit}
use Rattle.sup_replica.specs.declared.event.Act.{Act}
use Rattle.sup_replica.specs.declared.event.Act.TheVariants.{Event as Of, Stop, Restart}
use Rattle.sup_replica.specs.declared.done.Reply.{Reply}
use Rattle.sup_replica.specs.declared.done.Reply.TheVariants.{Finished, GaveUp}
use Rattle.sup_replica.specs.declared.refusal.Refusal.{Refusal}
use Rattle.sup_replica.specs.Nodes.{is_named}
use Rattle.sup_model.specs.declared.step.Step.{Step}
use Rattle.sup_model.specs.declared.step.Step.TheVariants.{Node as AtNode, Deliver as Delivery, Raw}
use Rattle.sup_model.specs.Worlds.{ModelAnswer}

-- a run of a child, as its start begins it
pub record Run : Type 0 where
  pub id : Bytes
  pub inc : Incarnation
  pub spec : ChildSpec

abbrev pub run_of : KeptChild → Run
run_of k = record { id = k.0; inc = k.1.inc; spec = k.1.spec }

-- the runs of what is kept, in its order
abbrev pub runs_of : List KeptChild → List Run
runs_of kept = map run_of kept

abbrev pub is_run : Bytes → Incarnation → Run → Bool
is_run id inc run = bytes_eq id run.id && inc_eq run.inc inc

-- a run ends that is named by its child and its incarnation: of another one nothing ends
abbrev pub without : Bytes → Incarnation → List Run → List Run
without id inc runs = filter (λ run. not (is_run id inc run)) runs

-- a child's next run has the place of its last one
abbrev pub with_start : Run → List Run → List Run
with_start next [] = next ∷ []
with_start next (run ∷ runs) = if bytes_eq next.id run.id then next ∷ runs else run ∷ with_start next runs

-- what effects leave running, where these ran
abbrev pub started_by : List Run → List Effect → List Run
started_by runs [] = runs
started_by runs (Stops id inc ∷ effects) = started_by (without id inc runs) effects
started_by runs (Starts id inc spec ∷ effects) = started_by (with_start (record { id = id; inc = inc; spec = spec }) runs) effects

-- a run that is done has ended by itself, which no effect tells
abbrev pub ended_by : Bytes → Incarnation → Reply → List Run → List Run
ended_by id inc (Finished dot) runs = without id inc runs
ended_by id inc (GaveUp dots) runs = without id inc runs
ended_by id inc reply runs = runs

-- and a stop ends all; a node that boots has none yet
abbrev pub left_by : Act → Reply → List Run → List Run
left_by (Of (Exit id inc reason)) reply runs = ended_by id inc reply runs
left_by (Of event) reply runs = runs
left_by Stop reply runs = []
left_by Restart reply runs = []

abbrev pub left_at : Step → Reply → List Run → List Run
left_at (AtNode at act now saves) reply runs = left_by act reply runs
left_at (Delivery from k at drop now saves) reply runs = runs
left_at (Raw at bytes) reply runs = runs

abbrev pub started_with : Step → ModelAnswer → List Run → List Run
started_with step answer runs = started_by (left_at step answer.done.reply runs) answer.done.effects

-- what the answers of one node leave running, where these ran
abbrev pub started_at : Bytes → List Run → List Step → List (Result ModelAnswer Refusal) → List Run
started_at name runs [] answers = runs
started_at name runs (step ∷ steps) [] = runs
started_at name runs (step ∷ steps) (Ok answer ∷ answers) = started_at name (if is_named name answer.at then started_with step answer runs else runs) steps answers
started_at name runs (step ∷ steps) (Err refusal ∷ answers) = started_at name runs steps answers
