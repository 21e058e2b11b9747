-- The headline of a certified run.
use Rattle.std.specs.Prelude.{◌≡◌, Bool, All, List, Result}
use Rattle.std.specs.List.{AllZip}
use Rattle.sup_specs.specs.Values.{Bytes}
use Rattle.sup_placement.specs.Place.{Weigher}
use Rattle.sup_replica.specs.Configs.{Config}
use Rattle.sup_replica.specs.declared.refusal.Refusal.{Refusal}
use Rattle.sup_plan.specs.declared.histories.History.{History}
use Rattle.sup_model.specs.declared.step.Step.{Step}
use Rattle.sup_world.specs.declared.answer.Answer.{Answer as Told}
use Rattle.sup_world.specs.CarriedSteps.{KnowsBytes}
use Rattle.sup_world.specs.ReachedWorlds.{ReachedByRun}
use Rattle.sup_world.specs.SeenNodes.{SeenNode}
use Rattle.sup_certify.specs.Certified.{IsNewWorld, IsRunBy, answer_of}
use Rattle.sup_certify.specs.Orders.{PlacedEntry, IsOrderOf}

-- the model calls raw bytes a message where they are read as one
abbrev pub KnowsAll : (Bytes → Bool) → List Step → Type 0
KnowsAll is_message steps = All (KnowsBytes is_message) steps

-- in some order of the entries each step is its entry, and the steps, answered as the entries say, led from a new world to this one: the headline holds of it
pub record HasHeadline (g : Weigher) (config : Config) (names : List Bytes) (is_message : Bytes → Bool) (histories : List History) (steps : List Step) (sites : List SeenNode) : Type 0 where
  pub order : List PlacedEntry
  pub keeps : IsOrderOf histories order
  pub start : List SeenNode
  pub is_new : IsNewWorld g config names start
  pub is_run : IsRunBy g start order steps sites
  pub told : List (Result Told Refusal)
  pub said : AllZip (λ (t : Result Told Refusal) (p : PlacedEntry). answer_of t ≡ p.entry.answer) told order
  pub reached : ReachedByRun g config names is_message steps told sites
