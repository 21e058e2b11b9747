-- What is told of a plan's run by threads: the verdict over the histories that they gave, or why they gave none.
use Rattle.std.specs.Prelude.{◌≡◌, ◌≢◌, ◌≤◌, ℕ, Bool, All, List, length, Result, Ok, Err}
use Rattle.sup_specs.specs.Values.{Bytes}
use Rattle.sup_placement.specs.Place.{Weigher}
use Rattle.sup_local_sup.specs.declared.effect.Effect.{Effect}
use Rattle.sup_jobs.specs.declared.fault.Fault.TheVariants as job
use Rattle.sup_plan.specs.declared.histories.History.{History}
use Rattle.sup_plan.specs.declared.plan.Plan.{Plan}
use Rattle.sup_posts.specs.declared.fault.RunFault.{RunFault}
use Rattle.sup_posts.specs.declared.fault.RunFault.TheVariants as stopped
use Rattle.sup_driving.specs.PlannedRuns.{Planned}
use Rattle.sup_driving.specs.declared.runner.Quiet.{Quiet}
use Rattle.sup_cluster.specs.Ran.{IsRanBy, Ran}
use Rattle.sup_cluster.specs.Runs.{IsRunOf}
use Rattle.sup_certify.specs.declared.fault.CertifyFault.{CertifyFault}
use Rattle.sup_certify.specs.declared.fault.CertifyFault.TheVariants as judged
use Rattle.sup_cluster_texts.specs.declared.fault.ClusterFault.{ClusterFault}
use Rattle.sup_cluster_texts.specs.declared.fault.ClusterFault.TheVariants.{Job, HistoryFull, LinkClosed, Stuck, Differs}
use Rattle.sup_cluster_texts.specs.Faults.{of_run}
use Rattle.sup_clustering.specs.declared.told.Untold.{Untold}
use Rattle.sup_clustering.specs.declared.told.Untold.TheVariants.{Stopped, Refused}
use Rattle.sup_clustering.specs.Verdicts.{PrintsRun, IsNoRun, RefusesHistories}

-- `did` is what the run's runner did and answered at nodes, by their names; no history may have more entries than the bound
module _ (weigher : Weigher) (did : Bytes → Effect → Bool → Type 0) (bound : ℕ) (plan : Plan) where
  -- the plan's threads may give these histories
  pub record IsGiven (histories : List History) : Type 0 where
    pub ran : IsRunOf weigher did plan histories
    pub bounded : All (λ (h : History). length h.entries.items ≤ bound) histories

  -- the plan's threads gave histories of whose run this is printed
  pub record PrintsCluster (said : List ℕ) : Type 0 where
    pub histories : List History
    pub given : IsGiven histories
    pub prints : PrintsRun weigher plan histories said

  -- the plan's threads gave histories that make no run, by this fault
  pub record GaveNoRun (fault : CertifyFault) : Type 0 where
    pub histories : List History
    pub given : IsGiven histories
    pub no_run : IsNoRun weigher plan histories fault

  -- why nothing is printed of a plan's nodes
  abbrev pub IsRefused : ClusterFault → Type 0
  IsRefused (Job fault) = fault ≡ job.OutOfMemory
  IsRefused HistoryFull = Unit {0}
  IsRefused LinkClosed = Unit {0}
  IsRefused Stuck = GaveNoRun judged.Stuck
  IsRefused (Differs node place) = GaveNoRun (judged.Differs node place)

-- of a planned run: its threads gave no histories, and the plan was none that can't be run; or they gave these, and the verdict over just these is told
abbrev pub IsUntold : {N : Type 0} → Weigher → (Bytes → Effect → Bool → Type 0) → Planned N Quiet → Untold N → Type 0
IsUntold weigher did planned (Stopped fault) = fault ≢ stopped.BadPlan
IsUntold weigher did planned (Refused fault ran) = IsRanBy planned ran × IsGiven weigher did planned.bound planned.plan ran.histories × RefusesHistories weigher planned.plan ran.histories fault

-- of threads that ended so: their fault, or the verdict over the histories that they gave
abbrev pub IsUntoldOf : {N : Type 0} → Weigher → Plan → Result (Ran N Quiet) RunFault → Untold N → Type 0
IsUntoldOf weigher plan ended (Stopped fault) = ended ≡ Err fault
IsUntoldOf weigher plan ended (Refused fault ran) = (ended ≡ Ok ran) × RefusesHistories weigher plan ran.histories fault

-- the fault that the command tells
abbrev pub fault_of : {N : Type 0} → Untold N → ClusterFault
fault_of (Stopped fault) = of_run fault
fault_of (Refused fault ran) = fault
