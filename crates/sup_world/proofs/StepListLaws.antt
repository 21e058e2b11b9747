-- A list of steps with one more.
use Rattle.std.specs.Prelude.{◌≡◌, ℕ, ◌+◌, ◌<◌, List, [], ◌∷◌, ◌++◌, length, take, slice_index_or, Result, refl}
use Rattle.std.proofs.Common.{sym, ap, ◌∙◌, subst}
use Rattle.std.proofs.lemmas.List.{take_more}
use Rattle.sup_placement.specs.Place.{Weigher}
use Rattle.sup_replica.specs.declared.refusal.Refusal.{Refusal}
use Rattle.sup_model.specs.declared.step.Step.{Step}
use Rattle.sup_world.specs.declared.answer.Answer.{Answer}
use Rattle.sup_world.specs.SeenNodes.{SeenNode}
use Rattle.sup_world.specs.Runs.{StepGoes, RanSteps}

module _ (g : Weigher) where
  ran_more : (sites mid new : List SeenNode) (steps : List Step) (answers : List (Result Answer Refusal)) (step : Step) (answer : Result Answer Refusal) → RanSteps g sites steps answers mid → StepGoes g mid step answer new
      → RanSteps g sites (steps ++ step ∷ []) (answers ++ answer ∷ []) new
  ran_more sites mid new [] [] step answer h s = (new, subst (λ m. StepGoes g m step answer new) h s, refl)
  ran_more sites mid new [] (a ∷ answers) step answer h s = absurd h
  ran_more sites mid new (x ∷ steps) [] step answer h s = absurd h
  ran_more sites mid new (x ∷ steps) (a ∷ answers) step answer h s = (h.0, h.1, ran_more h.0 mid new steps answers step answer h.2 s)

  pub ran_taken : (sites mid new : List SeenNode) (steps : List Step) (i : ℕ) (answers : List (Result Answer Refusal)) (step : Step) (answer : Result Answer Refusal) → i < length steps → step ≡ slice_index_or steps i step
      → RanSteps g sites (take i steps) answers mid → StepGoes g mid step answer new → RanSteps g sites (take (i + 1) steps) (answers ++ answer ∷ []) new
  ran_taken sites mid new steps i answers step answer lt is h s =
      let all : take (i + 1) steps ≡ take i steps ++ step ∷ [] = take_more steps i step lt ∙ ap (λ (x : Step). take i steps ++ x ∷ []) (sym is) in
      subst (λ xs. RanSteps g sites xs (answers ++ answer ∷ []) new) (sym all) (ran_more sites mid new (take i steps) answers step answer h s)
