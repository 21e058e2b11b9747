-- The clauses of a world's calls: a step is the one step of the definitions, and so follows the model.
use Rattle.std.specs.Prelude.{◌≡◌, List, is_some, Result, Ok, Err}
use Rattle.sup_tables.specs.States.{State}
use Rattle.sup_placement.specs.Place.{Weigher}
use Rattle.sup_replica.specs.declared.refusal.Refusal.{Refusal}
use Rattle.sup_model.specs.declared.step.Step.{Step}
use Rattle.sup_model.specs.Posts.{RealWorld, RealAnswer}
use Rattle.sup_model.specs.Worlds.{ModelWorld, ModelAnswer as Expected}
use Rattle.sup_model.specs.Runs.{ModelAllows}
use Rattle.sup_model.specs.Follows.{StepMakes, WorldStandsFor}
use Rattle.sup_world.specs.declared.answer.Answer.{Answer}
use Rattle.sup_world.specs.CarriedSteps.{carried}
use Rattle.sup_world.specs.SeenNodes.{SeenNode}
use Rattle.sup_world.specs.ToldAnswers.{ShowsReal, TellsOf}

-- the answer and the world after it are those of the code's step in the definitions
pub record MakesRealStep (weigher : Weigher) (real : RealWorld State) (step : Step) (result : Result Answer Refusal) (new : List SeenNode) : Type 0 where
  pub told : Result (RealAnswer State) Refusal
  pub after : RealWorld State
  pub makes : StepMakes real step told after
  pub tells : TellsOf told result
  pub shows : ShowsReal weigher new after

-- whatever world of the definitions the nodes show, it makes the step
abbrev pub CarriesOut : Weigher → List SeenNode → Step → Result Answer Refusal → List SeenNode → Type 0
CarriesOut g sites step result new = (real : RealWorld State) → ShowsReal g sites real → MakesRealStep g real (carried sites step) result new

-- the world stands for one of the model
pub record StandsFor (weigher : Weigher) (sites : List SeenNode) (model : ModelWorld) : Type 0 where
  pub real : RealWorld State
  pub shows : ShowsReal weigher sites real
  pub stands : WorldStandsFor real model

-- an answer beside the model's, but for what a letter brings; a letter is there exactly where its number is
pub record IsAs (expected : Expected) (answer : Answer) : Type 0 where
  pub at : answer.at ≡ expected.at
  pub reply : answer.done.reply ≡ expected.done.reply
  pub effects : answer.done.effects ≡ expected.done.effects
  pub number : answer.number ≡ expected.number
  pub lettered : is_some answer.done.out ≡ is_some answer.number

abbrev pub IsAsOf : Result Expected Refusal → Result Answer Refusal → Type 0
IsAsOf (Ok expected) (Ok answer) = IsAs expected answer
IsAsOf (Ok expected) (Err r) = ⊥
IsAsOf (Err q) (Ok answer) = ⊥
IsAsOf (Err q) (Err r) = r ≡ q

-- the world answers and becomes what the model allows
pub record FollowsModel (weigher : Weigher) (model : ModelWorld) (step : Step) (result : Result Answer Refusal) (new : List SeenNode) : Type 0 where
  pub after : ModelWorld
  pub expected : Result Expected Refusal
  pub allows : ModelAllows model step expected after
  pub told : IsAsOf expected result
  pub stands : StandsFor weigher new after
