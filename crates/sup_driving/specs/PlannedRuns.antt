-- A run that was not made yet, and by whom a run is made (this project).
use Rattle.std.specs.Prelude.{ℕ}
use Rattle.sup_plan.specs.declared.plan.Plan.{Plan}

-- the plan, how many entries each history may have, and who is told of what happens: the runner and the checkpoint
pub record Planned (N C : Type 0) : Type 0 where
  pub plan : Plan
  pub bound : ℕ
  pub runner : N
  pub checkpoint : C

-- by whom a run is made: who was told of what happened
pub record By (N C : Type 0) : Type 0 where
  pub runner : N
  pub checkpoint : C

-- by whom the planned run is to be made
abbrev pub planned_by : {N C : Type 0} → Planned N C → By N C
planned_by planned = record { runner = planned.runner; checkpoint = planned.checkpoint }
