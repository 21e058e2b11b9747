-- Clusters that end before anything is printed, and those that print.
use Rattle.std.proofs.Common.{◌≡◌, ℕ, ◌≤◌, List, length, subst, Ok, Err}
use Rattle.std.specs.Io.KnownBytes.{Appends}
use Rattle.std.proofs.KnownBytes.{Keeps-refl}
use Rattle.sup_replica.specs.Configs.{Config}
use Rattle.sup_placement.specs.Place.{Weigher}
use Rattle.sup_jobs.specs.declared.fault.Fault.{Fault}
use Rattle.sup_jobs.specs.declared.fault.Fault.TheVariants as job
use Rattle.sup_jobs.specs.Ends.{KnownBytes}
use Rattle.sup_jobs.specs.Tells.{IsCutShort}
use Rattle.sup_node_gate.specs.declared.bound.TheConstants.{MAX_BOUND}
use Rattle.sup_plan.specs.declared.plan.Plan.{Plan}
use Rattle.sup_cluster_texts.specs.Plans.{IsReadFault, SaysPlan}
use Rattle.sup_clustering.specs.CertifiedPlans.{IsRefused, PrintsCluster}
use Rattle.sup_clustering.specs.ClusterRuns.{ClustersTo, PrintsShort, all_start}
use Rattle.sup_cluster_texts.specs.declared.fault.ClusterFault.{ClusterFault}
use Rattle.sup_cluster_texts.specs.declared.fault.ClusterFault.TheVariants.{Job, HistoryFull, LinkClosed, Stuck, Differs}

-- the input says no plan
pub unread : (X : Type 0) (weigher : Weigher) (config : Config) (input : List ℕ) (before : KnownBytes) (fault : Fault) → length input ≤ 1048576 → IsReadFault input fault → ClustersTo {X = X} weigher config input before before (Err (Job fault))
unread X weigher config input before (job.BadLine number) short h = (short, h, Keeps-refl before)
unread X weigher config input before job.BadInput short h = absurd h
unread X weigher config input before (job.BadImage reason) short h = absurd h
unread X weigher config input before job.Device short h = absurd h
unread X weigher config input before job.OutOfMemory short h = Keeps-refl before

-- nothing is printed of the plan that it says
pub unprinted : (X : Type 0) (weigher : Weigher) (config : Config) (input : List ℕ) (before : KnownBytes) (plan : Plan) (fault : ClusterFault) → SaysPlan config input plan → IsRefused weigher all_start MAX_BOUND plan fault → ClustersTo {X = X} weigher config input before before (Err fault)
unprinted X weigher config input before plan (Job job.OutOfMemory) says h = Keeps-refl before
unprinted X weigher config input before plan (Job (job.BadLine number)) says h = cc
unprinted X weigher config input before plan (Job job.BadInput) says h = cc
unprinted X weigher config input before plan (Job (job.BadImage reason)) says h = cc
unprinted X weigher config input before plan (Job job.Device) says h = cc
unprinted X weigher config input before plan HistoryFull says h = (plan, says, h, Keeps-refl before)
unprinted X weigher config input before plan LinkClosed says h = (plan, says, h, Keeps-refl before)
unprinted X weigher config input before plan Stuck says h = (plan, says, h, Keeps-refl before)
unprinted X weigher config input before plan (Differs node place) says h = (plan, says, h, Keeps-refl before)

-- where nothing is printed of it, the device didn't fail
pub no_device : {X : Type 0} (weigher : Weigher) (plan : Plan) (fault : ClusterFault) → IsRefused weigher all_start MAX_BOUND plan fault → fault ≡ Job job.Device → X
no_device weigher plan (Job job.Device) h is = cc
no_device weigher plan (Job job.OutOfMemory) h is = cc
no_device weigher plan (Job (job.BadLine number)) h is = cc
no_device weigher plan (Job job.BadInput) h is = cc
no_device weigher plan (Job (job.BadImage reason)) h is = cc
no_device weigher plan HistoryFull h is = cc
no_device weigher plan LinkClosed h is = cc
no_device weigher plan Stuck h is = cc
no_device weigher plan (Differs node place) h is = cc

-- all is printed
pub printed : {X : Type 0} (x : X) (weigher : Weigher) (config : Config) (input : List ℕ) (before written : KnownBytes) (plan : Plan) (said text : List ℕ) → SaysPlan config input plan → PrintsCluster weigher all_start MAX_BOUND plan said → text ≡ said → Appends before written text
    → ClustersTo {X = X} weigher config input before written (Ok x)
printed x weigher config input before written plan said text says prints same h = (said, (plan, says, prints), subst (λ t. Appends before written t) same h)

-- a front is printed
pub cut : (weigher : Weigher) (config : Config) (input : List ℕ) (before written : KnownBytes) (plan : Plan) (said text : List ℕ) → SaysPlan config input plan → PrintsCluster weigher all_start MAX_BOUND plan said → text ≡ said
    → IsCutShort before written text → PrintsShort weigher config input before written
cut weigher config input before written plan said text says prints same h = (said, (plan, says, prints), subst (IsCutShort before written) same h)
