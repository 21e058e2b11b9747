-- What a run gave, and by whom it was made.
use Rattle.std.specs.Prelude.{◌≡◌, List}
use Rattle.sup_plan.specs.declared.histories.History.{History}
use Rattle.sup_driving.specs.PlannedRuns.{By, Planned, planned_by}

-- the histories of the nodes, in their order, and the runner and the checkpoint
pub record Ran (N C : Type 0) : Type 0 where
  pub histories : List History
  pub by : By N C

-- it was made by the planned run's runner and checkpoint
abbrev pub IsRanBy : {N C : Type 0} → Planned N C → Ran N C → Type 0
IsRanBy planned ran = ran.by ≡ planned_by planned
