-- The faults that end a cluster, their lines and their statuses (this project's output format).
use Rattle.std.specs.Prelude.{ℕ, List, [], ◌++◌, Result, Ok, Err, codes, decimal}
use Rattle.sup_jobs.specs.declared.fault.Fault.TheVariants as job
use Rattle.sup_jobs.specs.Faults as of_job
use Rattle.sup_posts.specs.declared.fault.RunFault.{RunFault}
use Rattle.sup_posts.specs.declared.fault.RunFault.TheVariants as run
use Rattle.sup_certify.specs.declared.fault.CertifyFault.{CertifyFault}
use Rattle.sup_certify.specs.declared.fault.CertifyFault.TheVariants as judged
use Rattle.sup_cluster_texts.specs.declared.fault.ClusterFault.{ClusterFault}
use Rattle.sup_cluster_texts.specs.declared.fault.ClusterFault.TheVariants.{Job, HistoryFull, LinkClosed, Stuck, Differs}

-- the line on standard error
abbrev pub fault_text : ClusterFault → List ℕ
fault_text (Job fault) = of_job.fault_text fault
fault_text HistoryFull = codes "history full\n"
fault_text LinkClosed = codes "link closed\n"
fault_text Stuck = codes "not certified stuck\n"
fault_text (Differs node place) = codes "not certified differs " ++ (node ++ (codes " " ++ (decimal place ++ codes "\n")))

-- the exit status
abbrev pub status_of : ClusterFault → ℕ
status_of (Job fault) = of_job.status_of fault
status_of HistoryFull = 3
status_of LinkClosed = 3
status_of Stuck = 4
status_of (Differs node place) = 4

-- the status of a run that ended so, 0 without a fault
abbrev pub status_at : {X : Type 0} → Result X ClusterFault → ℕ
status_at (Ok x) = 0
status_at (Err fault) = status_of fault

abbrev pub fault_line_at : {X : Type 0} → Result X ClusterFault → List ℕ
fault_line_at (Ok x) = []
fault_line_at (Err fault) = fault_text fault

-- of threads that gave no histories; a bad plan is none of a script's, and stands with memory
abbrev pub of_run : RunFault → ClusterFault
of_run run.BadPlan = Job job.OutOfMemory
of_run run.HistoryFull = HistoryFull
of_run run.LinkClosed = LinkClosed
of_run run.OutOfMemory = Job job.OutOfMemory

-- of histories that aren't certified
abbrev pub of_certify : CertifyFault → ClusterFault
of_certify judged.Stuck = Stuck
of_certify (judged.Differs node place) = Differs node place
of_certify judged.OutOfMemory = Job job.OutOfMemory
