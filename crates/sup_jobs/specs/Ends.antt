-- How a command that reads an input ends, and what the writer has got then (this project).
use Rattle.std.specs.Prelude.{◌≡◌, ℕ, ◌<◌, ◌≤◌, ◌⊎◌, List, length, Option, Result, Ok, Err, IfSome}
use Rattle.std.specs.Io.KnownBytes.{Consumes, Keeps}
use Rattle.sup_jobs.specs.Faults.{status_at, fault_line_at}
use Rattle.sup_jobs.specs.Tells.{Tells}
use Rattle.sup_jobs.specs.declared.fault.Ended.{Ended}
use Rattle.sup_jobs.specs.declared.fault.Fault.{Fault}
use Rattle.sup_jobs.specs.declared.fault.Fault.TheVariants.{BadLine, BadInput, BadImage, Device, OutOfMemory}

-- the bytes of a reader or a writer, where these are known
abbrev pub KnownBytes : Type 0
KnownBytes = Option (List ℕ)

-- what a command makes of its input
pub record Job (A : Type 0) : Type 1 where
  -- what the input says, or the number of its first bad line
  pub read : List ℕ → Result A ℕ
  -- the writer has got all that this asks for
  pub PrintsAll : A → KnownBytes → KnownBytes → Type 0
  -- the device failed: the writer has got a front of it, and not all
  pub PrintsShort : A → KnownBytes → KnownBytes → Type 0
  -- memory was refused: the writer has got this much of it
  pub PrintsBefore : A → KnownBytes → KnownBytes → Type 0

-- The input asks for something, and the writer has got so much of it.
abbrev pub Asks : {A : Type 0} → Job A → (A → KnownBytes → KnownBytes → Type 0) → List ℕ → KnownBytes → KnownBytes → Type 0
Asks {A} job Prints input before written = (asked : A) × (job.read input ≡ Ok asked) × Prints asked before written

-- The run was stopped: nothing was written, or so much of what an input asks for that isn't too long.
abbrev pub StopsAt : {A : Type 0} → Job A → (A → KnownBytes → KnownBytes → Type 0) → List ℕ → KnownBytes → KnownBytes → Type 0
StopsAt job Prints input before written = Keeps before written ⊎ ((length input ≤ 1048576) × Asks job Prints input before written)

-- How a run over this input ends, and what the writer has got then.
abbrev pub EndsAt : {A X : Type 0} → Job A → List ℕ → KnownBytes → KnownBytes → Result X Fault → Type 0
EndsAt {A} {X} job input before written (Ok x) = (length input ≤ 1048576) × Asks job job.PrintsAll input before written
EndsAt {A} {X} job input before written (Err (BadLine number)) = (length input ≤ 1048576) × (job.read input ≡ Err number) × Keeps before written
EndsAt {A} {X} job input before written (Err BadInput) = (1048576 < length input) × Keeps before written
EndsAt {A} {X} job input before written (Err (BadImage fault)) = ⊥
EndsAt {A} {X} job input before written (Err Device) = StopsAt job job.PrintsShort input before written
EndsAt {A} {X} job input before written (Err OutOfMemory) = StopsAt job job.PrintsBefore input before written

-- One byte more than an input may have was taken, exactly where the run ended with that; else no more than it may have.
abbrev pub IsTaken : {X : Type 0} → Result X Fault → List ℕ → Type 0
IsTaken (Ok x) taken = length taken ≤ 1048576
IsTaken (Err (BadLine number)) taken = length taken ≤ 1048576
IsTaken (Err BadInput) taken = length taken ≡ 1048577
IsTaken (Err (BadImage fault)) taken = length taken ≤ 1048576
IsTaken (Err Device) taken = length taken ≤ 1048576
IsTaken (Err OutOfMemory) taken = length taken ≤ 1048576

-- What was taken from the reader fits the end of the run.
abbrev pub TakesFor : {X : Type 0} → Result X Fault → KnownBytes → KnownBytes → Type 0
TakesFor end before after = (taken : List ℕ) × IsTaken end taken × Consumes before after taken

-- The status tells how the run ended, and the error writer was told of that end, which is one that the input may have.
abbrev pub EndsBy : (List ℕ → KnownBytes → KnownBytes → Result (Unit {0}) Fault → Type 0) → KnownBytes → KnownBytes → KnownBytes → KnownBytes → KnownBytes → KnownBytes → Ended → Type 0
EndsBy MayEnd input left before written errors_before errors_written ended =
    (end : Result (Unit {0}) Fault)
    × (ended.status ≡ status_at end)
    × Tells ended.told errors_before errors_written (fault_line_at end)
    × TakesFor end input left
    × IfSome input (λ bytes. MayEnd bytes before written end)

abbrev pub Does : {A : Type 0} → Job A → KnownBytes → KnownBytes → KnownBytes → KnownBytes → KnownBytes → KnownBytes → Ended → Type 0
Does job input left before written errors_before errors_written ended =
    EndsBy (λ bytes before' written' end. EndsAt job bytes before' written' end) input left before written errors_before errors_written ended

-- At most so many bytes were taken from a reader.
abbrev pub TakesAtMost : ℕ → KnownBytes → KnownBytes → Type 0
TakesAtMost most before after = (bytes : List ℕ) × (length bytes ≤ most) × Consumes before after bytes
