-- The verdict over histories is a function of the plan and these: want of memory may stand in its place, and of several nodes that differ any may be named.
use Rattle.std.specs.Prelude.{◌≡◌, ℕ, List}
use Rattle.sup_placement.specs.Place.{Weigher}
use Rattle.sup_jobs.specs.declared.fault.Fault.TheVariants as job
use Rattle.sup_plan.specs.declared.histories.History.{History}
use Rattle.sup_plan.specs.declared.plan.Plan.{Plan}
use Rattle.sup_cluster_texts.specs.declared.fault.ClusterFault.{ClusterFault}
use Rattle.sup_cluster_texts.specs.declared.fault.ClusterFault.TheVariants.{Job, Stuck, Differs}
use Rattle.sup_clustering.specs.Verdicts.{PrintsRun, RefusesHistories}

-- a law: of the same histories one text is printed
abbrev pub PrintsOneText : Type 0
PrintsOneText = (weigher : Weigher) (plan : Plan) (histories : List History) (said other : List ℕ) → PrintsRun weigher plan histories said → PrintsRun weigher plan histories other → other ≡ said

-- a law: where one may be printed, nothing but want of memory is told in its place
abbrev pub PrintsUnlessWanting : Type 0
PrintsUnlessWanting =
    (weigher : Weigher) (plan : Plan) (histories : List History) (said : List ℕ) (fault : ClusterFault) → PrintsRun weigher plan histories said → RefusesHistories weigher plan histories fault → fault ≡ Job job.OutOfMemory

-- want of memory aside, both are stuck, or both differ, and then in one place where it's at one node
abbrev pub AreAlike : ClusterFault → ClusterFault → Type 0
AreAlike Stuck (Differs node place) = ⊥
AreAlike (Differs node place) Stuck = ⊥
AreAlike (Differs node place) (Differs other more) = node ≡ other → place ≡ more
AreAlike fault other = Unit {0}

-- a law: the same histories are refused alike
abbrev pub RefusesAlike : Type 0
RefusesAlike =
    (weigher : Weigher) (plan : Plan) (histories : List History) (fault other : ClusterFault) → RefusesHistories weigher plan histories fault → RefusesHistories weigher plan histories other → AreAlike fault other
