-- What is done for the words of the command line, by what they ask for.
use Rattle.std.specs.Prelude.{◌≡◌, ◌⊎◌, ℕ, List, Option, Some, None}
use Rattle.std.specs.Io.KnownBytes.{Keeps}
use Rattle.sup_command_line.specs.Weighings.{weight_of}
use Rattle.sup_command_line.specs.declared.request.Request.{Request}
use Rattle.sup_command_line.specs.declared.request.Request.TheVariants.{Simulate, Cluster, Place, Inspect}
use Rattle.sup_jobs.specs.declared.fault.Ended.{Ended}
use Rattle.sup_jobs.specs.declared.fault.Fault.TheVariants.{OutOfMemory}
use Rattle.sup_jobs.specs.Ends.{KnownBytes}
use Rattle.sup_jobs.specs.Faults.{fault_text, status_of}
use Rattle.sup_jobs.specs.Tells.{Tells}
use Rattle.sup_placing.specs.Placing.{Places}
use Rattle.sup_inspecting.specs.InspectedImages.{InspectsImage}
use Rattle.sup_program.specs.SimulatedScripts.{SimulatesScript}

-- Memory was refused: the status and the error writer say so.
abbrev pub WantsMemory : KnownBytes → KnownBytes → Ended → Type 0
WantsMemory errors_before errors_written ended =
    (ended.status ≡ status_of OutOfMemory) × Tells ended.told errors_before errors_written (fault_text OutOfMemory)

-- The words were refused, and this was told.
abbrev pub TellsUsage : List ℕ → KnownBytes → KnownBytes → Ended → Type 0
TellsUsage said errors_before errors_written ended = (ended.status ≡ 2) × Tells ended.told errors_before errors_written said

-- The words are no command: the status and the error writer say so, or that memory was refused.
abbrev pub RefusesWords : KnownBytes → KnownBytes → Ended → Type 0
RefusesWords errors_before errors_written ended =
    ((said : List ℕ) × TellsUsage said errors_before errors_written ended) ⊎ WantsMemory errors_before errors_written ended

-- What is asked for is done, and words that ask for nothing are refused. A cluster isn't run here: an end tells that memory was refused before.
abbrev pub PerformsRequest : Option Request → KnownBytes → KnownBytes → KnownBytes → KnownBytes → KnownBytes → KnownBytes → Ended → Type 0
PerformsRequest (Some (Simulate weighing config)) input left before written errors_before errors_written ended =
    SimulatesScript (weight_of weighing) config input left before written errors_before errors_written ended
PerformsRequest (Some (Cluster weighing config)) input left before written errors_before errors_written ended =
    WantsMemory errors_before errors_written ended × Keeps input left × Keeps before written
PerformsRequest (Some (Place weighing)) input left before written errors_before errors_written ended =
    Places (weight_of weighing) input left before written errors_before errors_written ended
PerformsRequest (Some (Inspect weighing)) input left before written errors_before errors_written ended =
    InspectsImage (weight_of weighing) input left before written errors_before errors_written ended
PerformsRequest None input left before written errors_before errors_written ended = RefusesWords errors_before errors_written ended
