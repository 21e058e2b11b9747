-- Runs of the model world, and what a step of the code may answer (this project).
use Rattle.std.specs.Prelude.{◌≡◌, ◌⊎◌, Bool, true, false, not, List, [], ◌∷◌, ◌++◌, length, drop, Some, Result, Ok, Err, IsOk}
use Rattle.std.specs.Option.{option_map, unwrap_or}
use Rattle.sup_specs.specs.Values.{Bytes}
use Rattle.sup_causal.specs.declared.dot.Dot.{Dot}
use Rattle.sup_tables.specs.Operations.{OperationsCover}
use Rattle.sup_replica.specs.declared.event.Event.TheVariants.{Ship}
use Rattle.sup_replica.specs.declared.event.Act.TheVariants.{Event as Of, Stop, Restart}
use Rattle.sup_replica.specs.Refusals.{is_found_first}
use Rattle.sup_replica.specs.declared.done.Reply.{Reply}
use Rattle.sup_replica.specs.declared.done.Reply.TheVariants.{Added, Replaced}
use Rattle.sup_replica.specs.declared.refusal.Refusal.{Refusal}
use Rattle.sup_replica.specs.declared.refusal.Refusal.TheVariants.{OutOfMemory, UpToDate}
use Rattle.sup_model.specs.declared.step.Step.{Step}
use Rattle.sup_model.specs.declared.step.Step.TheVariants.{Node as AtNode, Deliver as Delivery, Raw}
use Rattle.sup_model.specs.Worlds.{Ops, ModelWorld, ModelSite, ModelAnswer, WorldStepped, step, site_of}

-- the world after a step; a refused step changes nothing
abbrev pub world_after : ModelWorld → Result WorldStepped Refusal → ModelWorld
world_after w (Ok s) = s.world
world_after w (Err refusal) = w

abbrev pub answer_of : Result WorldStepped Refusal → Result ModelAnswer Refusal
answer_of (Ok s) = Ok s.answer
answer_of (Err refusal) = Err refusal

-- a whole list of steps
abbrev pub run : ModelWorld → List Step → ModelWorld
run w [] = w
run w (s ∷ steps) = run (world_after w (step w s)) steps

abbrev pub answers : ModelWorld → List Step → List (Result ModelAnswer Refusal)
answers w [] = []
answers w (s ∷ steps) = answer_of (step w s) ∷ answers (world_after w (step w s)) steps

-- a ship to a node that knows all that the sender knows
pub record IsCoveredShip (w : ModelWorld) (at to : Bytes) : Type 0 where
  pub sender : ModelSite
  pub target : ModelSite
  pub is_sender : site_of w at ≡ Some sender
  pub is_target : site_of w to ≡ Some target
  pub covered : OperationsCover target.node.known sender.node.known

abbrev pub MayBeUpToDate : ModelWorld → Step → Type 0
MayBeUpToDate w (AtNode at (Of (Ship to)) now saves) = IsCoveredShip w at to
MayBeUpToDate w _ = ⊥

-- a step that is refused, if at all, by a check that comes after memory is taken
abbrev pub is_late : {A : Type 0} → Result A Refusal → Bool
is_late (Ok a) = true
is_late (Err refusal) = not (is_found_first refusal)

-- whether want of memory may stand in place of the answer: a stop takes none; a delivery, raw bytes and a restart may want it at any time;
-- other acts run their first checks before
abbrev pub may_want : Step → Bool → Bool
may_want (AtNode at (Of event) now saves) late = late
may_want (AtNode at Stop now saves) late = false
may_want (AtNode at Restart now saves) late = true
may_want (Delivery from k at drop now saves) late = true
may_want (Raw at bytes) late = true

-- from w, a step may be answered so and leave w': as the model says; or out of memory, where that may be; or, of a ship
-- that isn't refused, up to date, where its target knows all that the sender knows. A refused step leaves w
abbrev pub ModelAllows : ModelWorld → Step → Result ModelAnswer Refusal → ModelWorld → Type 0
ModelAllows w s answer w' =
    ((answer ≡ answer_of (step w s)) × (w' ≡ world_after w (step w s)))
    ⊎ ((answer ≡ Err OutOfMemory) × (may_want s (is_late (step w s)) ≡ true) × (w' ≡ w))
    ⊎ ((answer ≡ Err UpToDate) × IsOk (step w s) × MayBeUpToDate w s × (w' ≡ w))

-- these answers to these steps, one after another
abbrev pub ModelRun : ModelWorld → List Step → List (Result ModelAnswer Refusal) → ModelWorld → Type 0
ModelRun w [] [] w' = w' ≡ w
ModelRun w (s ∷ steps) (answer ∷ rest) w' = (mid : ModelWorld) × ModelAllows w s answer mid × ModelRun mid steps rest w'
ModelRun w [] (answer ∷ rest) w' = ⊥
ModelRun w (s ∷ steps) [] w' = ⊥

-- what a node knows, nothing where it isn't there
abbrev pub ops_at : ModelWorld → Bytes → Ops
ops_at w name = unwrap_or (option_map (λ s. s.node.known) (site_of w name)) []

-- the operations of its own that a node adds by an act
abbrev pub issued : ModelWorld → Step → ModelWorld → Ops
issued w (AtNode at act now saves) w' = drop (length (ops_at w at)) (ops_at w' at)
issued w (Delivery from k at drop now saves) w' = []
issued w (Raw at bytes) w' = []

-- those of a run
abbrev pub all_issued : (w : ModelWorld) (steps : List Step) (answers : List (Result ModelAnswer Refusal)) (w' : ModelWorld) → ModelRun w steps answers w' → Ops
all_issued w [] [] w' run = []
all_issued w (s ∷ steps) (answer ∷ rest) w' run = issued w s run.0 ++ all_issued run.0 steps rest w' run.2
all_issued w [] (answer ∷ rest) w' run = []
all_issued w (s ∷ steps) [] w' run = []

-- the new dot that a reply tells, if any; and those of a run's replies
abbrev pub dot_of : Reply → List Dot
dot_of (Added dot) = dot ∷ []
dot_of (Replaced dot removes) = dot ∷ []
dot_of _ = []

abbrev pub new_dots : List (Result ModelAnswer Refusal) → List Dot
new_dots [] = []
new_dots (Ok a ∷ rest) = dot_of a.done.reply ++ new_dots rest
new_dots (Err refusal ∷ rest) = new_dots rest
