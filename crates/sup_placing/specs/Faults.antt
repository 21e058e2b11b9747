-- Faults of what is read, as faults of a job (this project).
use Rattle.sup_jobs.specs.declared.fault.Fault.{Fault}
use Rattle.sup_jobs.specs.declared.fault.Fault.TheVariants.{BadLine, OutOfMemory}
use Rattle.sup_lines.specs.declared.fault.ScriptFault.{ScriptFault}
use Rattle.sup_lines.specs.declared.fault.ScriptFault.TheVariants as script

abbrev pub fault_of : ScriptFault → Fault
fault_of (script.BadLine number) = BadLine number
fault_of script.OutOfMemory = OutOfMemory
