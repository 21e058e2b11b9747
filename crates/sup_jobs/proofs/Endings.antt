-- Jobs that end before their input is done.
use Rattle.std.proofs.Common.{◌≡◌, ◌≤◌, ℕ, List, length, Ok, Err, inr}
use Rattle.sup_jobs.specs.declared.fault.Fault.{Fault}
use Rattle.sup_jobs.specs.declared.fault.Fault.TheVariants.{BadLine, BadInput, BadImage, Device, OutOfMemory}
use Rattle.sup_jobs.specs.Ends.{KnownBytes, Job, EndsAt}

-- how much of what is asked for the writer has got, where this fault of the device or of memory ended the job
abbrev pub StopsBy : {A : Type 0} → Job A → A → KnownBytes → KnownBytes → Fault → Type 0
StopsBy job asked before written (BadLine number) = ⊥
StopsBy job asked before written BadInput = ⊥
StopsBy job asked before written (BadImage reason) = ⊥
StopsBy job asked before written Device = job.PrintsShort asked before written
StopsBy job asked before written OutOfMemory = job.PrintsBefore asked before written

-- a job that the device or memory ended once its input was read
pub stopped : {A : Type 0} (X : Type 0) (job : Job A) (asked : A) (fault : Fault) (input : List ℕ) (before written : KnownBytes) → length input ≤ 1048576 → job.read input ≡ Ok asked → StopsBy job asked before written fault → EndsAt {X = X} job input before written (Err fault)
stopped X job asked (BadLine number) input before written short read h = absurd h
stopped X job asked BadInput input before written short read h = absurd h
stopped X job asked (BadImage reason) input before written short read h = absurd h
stopped X job asked Device input before written short read h = inr (short, (asked, read, h))
stopped X job asked OutOfMemory input before written short read h = inr (short, (asked, read, h))
