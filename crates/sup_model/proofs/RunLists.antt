-- A run behind a run.
use Rattle.std.specs.Prelude.{List, [], ◌∷◌, ◌++◌, Result}
use Rattle.std.proofs.Common.{subst}
use Rattle.sup_replica.specs.declared.refusal.Refusal.{Refusal}
use Rattle.sup_model.specs.declared.step.Step.{Step}
use Rattle.sup_model.specs.Worlds.{ModelWorld, ModelAnswer}
use Rattle.sup_model.specs.Runs.{ModelRun}

pub runs_append : (w mid after : ModelWorld) (steps more : List Step) (answers others : List (Result ModelAnswer Refusal)) → ModelRun w steps answers mid → ModelRun mid more others after → ModelRun w (steps ++ more) (answers ++ others) after
runs_append w mid after [] more [] others h g = subst (λ (v : ModelWorld). ModelRun v more others after) h g
runs_append w mid after (s ∷ steps) more (answer ∷ answers) others h g = (h.0, h.1, runs_append h.0 mid after steps more answers others h.2 g)
runs_append w mid after [] more (answer ∷ answers) others h g = absurd h
runs_append w mid after (s ∷ steps) more [] others h g = absurd h
