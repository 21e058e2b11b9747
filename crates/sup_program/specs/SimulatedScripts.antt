-- The command simulate: a script is run from the world of its nodes.
use Rattle.sup_replica.specs.Configs.{Config}
use Rattle.sup_placement.specs.Place.{Weigher}
use Rattle.sup_lines.specs.Script.{ScriptText, script_of}
use Rattle.sup_jobs.specs.declared.fault.Ended.{Ended}
use Rattle.sup_jobs.specs.declared.fault.Fault.TheVariants.{Device, OutOfMemory}
use Rattle.sup_jobs.specs.Ends.{KnownBytes, Job, Does}
use Rattle.sup_program.specs.Plays.{PrintsAll, PrintsPart}

abbrev pub simulation : Weigher → Config → Job ScriptText
simulation weigher config = record {
  read = script_of;
  PrintsAll = λ script. PrintsAll weigher config script.0 script.1;
  PrintsShort = λ script. PrintsPart weigher config script.0 script.1 Device;
  PrintsBefore = λ script. PrintsPart weigher config script.0 script.1 OutOfMemory;
}

-- The status tells how the run ended, and the error writer was told of that end.
abbrev pub SimulatesScript : Weigher → Config → KnownBytes → KnownBytes → KnownBytes → KnownBytes → KnownBytes → KnownBytes → Ended → Type 0
SimulatesScript weigher config input left before written errors_before errors_written ended =
    Does (simulation weigher config) input left before written errors_before errors_written ended
