use Rattle.std.specs.Prelude.{◌≡◌, false, All}
use Rattle.std.proofs.Common.{subst}
use Rattle.std.proofs.lemmas.List.{take_all}
use Rattle.std.proofs.lemmas.List.Elements.{All-more}
use Rattle.sup_model.specs.declared.step.Step.{Step}
use Rattle.sup_world.specs.CarriedSteps.{has_bytes}
use Rattle.sup_world_tests.proofs.made.expect_none_has_bytes.Goals as goal

pub loop-step-preserved : goal.loop-step-preserved
loop-step-preserved g c =
    All-more (λ (step : Step). has_bytes step ≡ false) c.args.steps.now c.loop-step.step-index c.step-item.result c.loop-step-test.true c.loop-step.invariant
    (subst (λ (step : Step). has_bytes step ≡ false) c.step-item.is c.expect_no_bytes.ensures)

pub returns : goal.returns
returns g c =
    subst (λ steps. All (λ (step : Step). has_bytes step ≡ false) steps) (take_all c.loop-step.step-index c.args.steps.now c.loop-step-test.false) c.loop-step.invariant
