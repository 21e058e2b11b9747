use Rattle.std.proofs.Common.{◌≡◌, false, take}
use Rattle.std.specs.Prelude.{All}
use Rattle.sup_world.specs.CarriedSteps.{has_bytes}
use Rattle.sup_world_tests.proofs.made.expect_none_has_bytes.Given as goal

abbrev pub invariant-loop-step : goal.invariant-loop-step
invariant-loop-step g l = All (λ step. has_bytes step ≡ false) (take l.step-index l.steps)
