-- The command cluster: a script's nodes run by threads, and what they know once they have settled.
use Rattle.std.specs.Prelude.{◌≡◌, ◌<◌, ◌≤◌, ◌⊎◌, ℕ, Bool, true, List, length, Result, Ok, Err, IfSome}
use Rattle.std.specs.Io.KnownBytes.{Appends, Consumes, Keeps}
use Rattle.sup_specs.specs.Values.{Bytes}
use Rattle.sup_local_sup.specs.declared.effect.Effect.{Effect}
use Rattle.sup_replica.specs.Configs.{Config}
use Rattle.sup_placement.specs.Place.{Weigher}
use Rattle.sup_jobs.specs.declared.fault.Ended.{Ended}
use Rattle.sup_jobs.specs.declared.fault.Fault.{Fault}
use Rattle.sup_jobs.specs.declared.fault.Fault.TheVariants as job
use Rattle.sup_jobs.specs.Ends.{KnownBytes, IsTaken}
use Rattle.sup_jobs.specs.Tells.{IsCutShort, Tells}
use Rattle.sup_node_gate.specs.declared.bound.TheConstants.{MAX_BOUND}
use Rattle.sup_plan.specs.declared.plan.Plan.{Plan}
use Rattle.sup_cluster_lines.specs.Script.{plan_script_of}
use Rattle.sup_cluster_texts.specs.Faults.{fault_line_at, status_at}
use Rattle.sup_cluster_texts.specs.Plans.{SaysPlan}
use Rattle.sup_clustering.specs.CertifiedPlans.{IsRefused, PrintsCluster}
use Rattle.sup_cluster_texts.specs.declared.fault.ClusterFault.{ClusterFault}
use Rattle.sup_cluster_texts.specs.declared.fault.ClusterFault.TheVariants.{Job, HistoryFull, LinkClosed, Stuck, Differs}

-- each effect is done, and no start fails
abbrev pub all_start : Bytes → Effect → Bool → Type 0
all_start node effect answer = answer ≡ true

-- what is printed of a certified run of the plan that the input says
abbrev pub MayPrint : Weigher → Config → List ℕ → List ℕ → Type 0
MayPrint weigher config input said = (plan : Plan) × SaysPlan config input plan × PrintsCluster weigher all_start MAX_BOUND plan said

-- The writer has got a front of what is printed, and not all.
abbrev pub PrintsShort : Weigher → Config → List ℕ → KnownBytes → KnownBytes → Type 0
PrintsShort weigher config input before written = (said : List ℕ) × MayPrint weigher config input said × IsCutShort before written said

-- The device failed: nothing was written, or a front of what is printed.
abbrev pub StopsAt : Weigher → Config → List ℕ → KnownBytes → KnownBytes → Type 0
StopsAt weigher config input before written = Keeps before written ⊎ PrintsShort weigher config input before written

-- A plan that the input says was run, and nothing is printed of it, for this fault.
abbrev pub RefusesAt : Weigher → Config → List ℕ → KnownBytes → KnownBytes → ClusterFault → Type 0
RefusesAt weigher config input before written fault = (plan : Plan) × SaysPlan config input plan × IsRefused weigher all_start MAX_BOUND plan fault × Keeps before written

-- How a run over this input ends by a fault of any job, and what the writer has got then.
abbrev pub EndsJob : Weigher → Config → List ℕ → KnownBytes → KnownBytes → Fault → Type 0
EndsJob weigher config input before written (job.BadLine number) = (length input ≤ 1048576) × (plan_script_of input ≡ Err number) × Keeps before written
EndsJob weigher config input before written job.BadInput = (1048576 < length input) × Keeps before written
EndsJob weigher config input before written (job.BadImage fault) = ⊥
EndsJob weigher config input before written job.Device = StopsAt weigher config input before written
EndsJob weigher config input before written job.OutOfMemory = Keeps before written

-- How a run over this input ends, and what the writer has got then.
abbrev pub ClustersTo : {X : Type 0} → Weigher → Config → List ℕ → KnownBytes → KnownBytes → Result X ClusterFault → Type 0
ClustersTo weigher config input before written (Ok x) = (said : List ℕ) × MayPrint weigher config input said × Appends before written said
ClustersTo weigher config input before written (Err (Job fault)) = EndsJob weigher config input before written fault
ClustersTo weigher config input before written (Err HistoryFull) = RefusesAt weigher config input before written HistoryFull
ClustersTo weigher config input before written (Err LinkClosed) = RefusesAt weigher config input before written LinkClosed
ClustersTo weigher config input before written (Err Stuck) = RefusesAt weigher config input before written Stuck
ClustersTo weigher config input before written (Err (Differs node place)) = RefusesAt weigher config input before written (Differs node place)

-- the end of the run as one of any job, with the cluster's own faults as a good one: the input was read by then
abbrev pub job_end : {X : Type 0} → Result X ClusterFault → Result (Unit {0}) Fault
job_end (Ok x) = Ok tt
job_end (Err (Job fault)) = Err fault
job_end (Err HistoryFull) = Ok tt
job_end (Err LinkClosed) = Ok tt
job_end (Err Stuck) = Ok tt
job_end (Err (Differs node place)) = Ok tt

-- What was taken from the reader fits the end of the run: one byte more than an input may have exactly where it ended as too long.
abbrev pub TakesFor : {X : Type 0} → Result X ClusterFault → KnownBytes → KnownBytes → Type 0
TakesFor end before after = (taken : List ℕ) × IsTaken (job_end end) taken × Consumes before after taken

-- The status tells how the run ended, and the error writer was told of that end, which is one that the input may have.
abbrev pub RunsCluster : Weigher → Config → KnownBytes → KnownBytes → KnownBytes → KnownBytes → KnownBytes → KnownBytes → Ended → Type 0
RunsCluster weigher config input left before written errors_before errors_written ended =
    (end : Result (Unit {0}) ClusterFault)
    × (ended.status ≡ status_at end)
    × Tells ended.told errors_before errors_written (fault_line_at end)
    × TakesFor end input left
    × IfSome input (λ bytes. ClustersTo weigher config bytes before written end)
