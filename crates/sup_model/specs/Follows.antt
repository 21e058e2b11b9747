-- Laws of the code's world beside the model's (this project): what it stands for, that a step follows the model, and that settling settles.
use Rattle.std.specs.Prelude.{ℕ, ◌≡◌, ◌⊎◌, true, false, List, [], ◌∷◌, ◌++◌, map, Some, Result, Err}
use Rattle.sup_specs.specs.Values.{Bytes}
use Rattle.sup_replica.specs.declared.refusal.Refusal.{Refusal}
use Rattle.sup_replica.specs.declared.refusal.Refusal.TheVariants.{OutOfMemory}
use Rattle.sup_model.specs.Worlds.{WorldSetting, Ops, ModelWorld, ModelAnswer, new}
use Rattle.sup_replica.specs.Nodes.{is_named}
use Rattle.sup_tables.specs.States.{State}
use Rattle.sup_model.specs.declared.step.Step.{Step}
use Rattle.sup_replica.specs.Stations.{MailCodec}
use Rattle.sup_model.specs.Runs.{ModelAllows, may_want, is_late}
use Rattle.sup_anti_entropy.specs.Joins.{joined}
use Rattle.sup_model.specs.Laws.{OperationsAlike}
use Rattle.sup_replica.specs.ByTables.{by_tables}
use Rattle.sup_model.specs.TableViews.{table_view}
use Rattle.sup_model.specs.Posts.{RealWorld, RealAnswer, reads, real_step, real_after, real_new}
use Rattle.sup_model.specs.Joint.{JointWorld, real_of, model_of, JointHolds}
use Rattle.sup_model.specs.Refines.{real_answer_of, AnswersAlike, WorldStands, RefinedRun}
use Rattle.sup_model.specs.Settles.{known_at, WorldSettles}

-- the code's world and the model's are the two halves of one joint world in which all holds
pub record WorldStandsFor (real : RealWorld State) (model : ModelWorld) : Type 0 where
  pub joint : JointWorld State
  pub holds : JointHolds table_view joint
  pub real_is : real ≡ real_of joint
  pub model_is : model ≡ model_of joint

-- the world answers and becomes what the model allows
pub record StepFollows (model : ModelWorld) (step : Step) (answer : Result (RealAnswer State) Refusal) (real : RealWorld State) : Type 0 where
  pub after : ModelWorld
  pub expected : Result ModelAnswer Refusal
  pub allows : ModelAllows model step expected after
  pub told : AnswersAlike table_view answer expected
  pub stands : WorldStandsFor real after

-- what the code's step is: one function of the world, or refused for memory where that may be
abbrev pub StepMakes : RealWorld State → Step → Result (RealAnswer State) Refusal → RealWorld State → Type 0
StepMakes real step answer after =
    ((answer ≡ real_answer_of (real_step by_tables real step)) × (after ≡ real_after by_tables real (real_step by_tables real step)))
    ⊎ ((answer ≡ Err OutOfMemory) × (may_want step (is_late (real_step by_tables real step)) ≡ true) × (after ≡ real))

-- a law: whatever world of the model the code's stands for, its step follows that
abbrev pub StepsFollow : Type 0
StepsFollow =
    (real after : RealWorld State) (step : Step) (answer : Result (RealAnswer State) Refusal) → StepMakes real step answer after
    → (model : ModelWorld) → WorldStandsFor real model → StepFollows model step answer after

-- a law: the code's new world stands for the model's
abbrev pub NewStands : Type 0
NewStands = (setting : WorldSetting) (room : ℕ) (codec : MailCodec State) (names : List Bytes) → WorldStandsFor (real_new by_tables setting room codec names) (new setting (reads codec) names)

-- a law: what stands for a model does so node by node and letter by letter
abbrev pub WorldsStand : Type 0
WorldsStand = (real : RealWorld State) (model : ModelWorld) → WorldStandsFor real model → WorldStands by_tables table_view real model

-- a law: after any list of steps from a new world the answers are those of a run of the model, and the code's world stands for that one's
abbrev pub RunsFollow : Type 0
RunsFollow = (setting : WorldSetting) (room : ℕ) (codec : MailCodec State) (names : List Bytes) (steps : List Step) → RefinedRun by_tables table_view setting room codec names steps

-- a name that is none of these; and names that all differ
abbrev pub NameIsApart : Bytes → List Bytes → Type 0
NameIsApart name [] = Unit {0}
NameIsApart name (other ∷ others) = (is_named name other ≡ false) × (is_named other name ≡ false) × NameIsApart name others

abbrev pub NamesAllDiffer : List Bytes → Type 0
NamesAllDiffer [] = Unit {0}
NamesAllDiffer (name ∷ names) = NameIsApart name names × NamesAllDiffer names

abbrev pub all_of : List Ops → Ops
all_of ops = joined (λ a b. a ++ b) [] ops

abbrev pub AllKnowAlike : Ops → List Ops → Type 0
AllKnowAlike all [] = Unit {0}
AllKnowAlike all (ops ∷ more) = OperationsAlike ops all × AllKnowAlike all more

-- each of the nodes has all that any of them had absorbed
pub record AllSettled (w : ModelWorld) (first : Bytes) (names : List Bytes) (w' : ModelWorld) : Type 0 where
  pub before : List Ops
  pub after : List Ops
  pub had : map (known_at w) (first ∷ names) ≡ map (λ ops. Some ops) before
  pub have : map (known_at w') (first ∷ names) ≡ map (λ ops. Some ops) after
  pub alike : AllKnowAlike (all_of before) after

-- a law of the model: settling settles
abbrev pub SettlingSettles : Type 0
SettlingSettles =
    (w : ModelWorld) (first : Bytes) (names : List Bytes) (w' : ModelWorld) (x : Ops) → NameIsApart first names → NamesAllDiffer names → known_at w first ≡ Some x
    → WorldSettles w first names w' → AllSettled w first names w'
