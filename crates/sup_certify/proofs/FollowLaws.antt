-- The headline holds of a certified run.
use Rattle.std.specs.Prelude.{◌≡◌, ◌≤◌, Bool, List, [], ◌∷◌, length, Result}
use Rattle.std.specs.List.{AllZip}
use Rattle.std.proofs.Common.{arith}
use Rattle.sup_specs.specs.Values.{Bytes}
use Rattle.sup_keeper.specs.Keeping.{most}
use Rattle.sup_placement.specs.Place.{Weigher}
use Rattle.sup_replica.specs.Configs.{Config}
use Rattle.sup_replica.specs.declared.refusal.Refusal.{Refusal}
use Rattle.sup_plan.specs.declared.histories.History.{History}
use Rattle.sup_model.specs.declared.step.Step.{Step}
use Rattle.sup_world.specs.declared.answer.Answer.{Answer as Told}
use Rattle.sup_world.specs.Runs.{RanSteps}
use Rattle.sup_world.specs.SeenNodes.{SeenNode}
use Rattle.sup_world.proofs.ReachedWorldLaws.{reached_new, leads_on}
use Rattle.sup_certify.specs.Orders.{PlacedEntry}
use Rattle.sup_certify.specs.Certified.{IsRunBy, MakeRun, answer_of}
use Rattle.sup_certify.specs.Follows.{KnowsAll, HasHeadline}

module _ (g : Weigher) where
  -- a run's answers
  pub record Answered (start : List SeenNode) (order : List PlacedEntry) (steps : List Step) (sites : List SeenNode) : Type 0 where
    pub told : List (Result Told Refusal)
    pub said : AllZip (λ (t : Result Told Refusal) (p : PlacedEntry). answer_of t ≡ p.entry.answer) told order
    pub ran : RanSteps g start steps told sites

  answered : (start : List SeenNode) (order : List PlacedEntry) (steps : List Step) (sites : List SeenNode) → IsRunBy g start order steps sites → Answered start order steps sites
  answered start [] [] sites h = record { told = []; said = tt; ran = h }
  answered start [] (step ∷ steps) sites h = absurd h
  answered start (p ∷ order) [] sites h = absurd h
  answered start (p ∷ order) (step ∷ steps) sites h =
      let rest = answered h.0 order steps sites h.2 in
      record { told = h.1.answer ∷ rest.told; said = (h.1.says, rest.said); ran = (h.0, h.1.goes, rest.ran) }

  pub run_headline : (config : Config) (names : List Bytes) (hs : List History) (steps : List Step) (sites : List SeenNode) (is_message : Bytes → Bool) → MakeRun g config names hs steps sites → length steps ≤ most → KnowsAll is_message steps
      → HasHeadline g config names is_message hs steps sites
  run_headline config names hs steps sites is_message r le k =
      let a = answered r.start r.order steps sites r.is_run in
      record {
        order = r.order;
        keeps = r.keeps;
        start = r.start;
        is_new = r.is_new;
        is_run = r.is_run;
        told = a.told;
        said = a.said;
        reached = leads_on g r.start sites steps a.told a.ran config names is_message [] [] (reached_new g config names is_message r.start (r.is_new.stands is_message) r.is_new.unfailed) (omega (arith, le)) k;
      }
