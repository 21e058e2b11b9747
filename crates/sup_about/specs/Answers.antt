-- What a program answers where it is asked about itself (this project).
use Rattle.std.specs.Prelude.{◌≡◌, ℕ, List, Option, Result, IfErr}
use Rattle.sup_about.specs.Helps.{command_help, program_help}
use Rattle.sup_about.specs.Versions.{version_text}
use Rattle.sup_about.specs.declared.asked.Asked.{Asked}
use Rattle.sup_about.specs.declared.asked.Asked.TheVariants.{Help, HelpOf, Version}
use Rattle.sup_about.specs.declared.asked.Program.{Program}
use Rattle.sup_jobs.specs.Ends.{KnownBytes}
use Rattle.sup_jobs.specs.Faults.{fault_line_at, status_at}
use Rattle.sup_jobs.specs.Tells.{Tells}
use Rattle.sup_jobs.specs.declared.fault.Ended.{Ended}
use Rattle.sup_jobs.specs.declared.fault.Fault.{Fault}
use Rattle.sup_jobs.specs.declared.fault.Fault.TheVariants.{Device}

-- The text that answers. That of a version goes by what may be found beside the program.
abbrev pub IsAnswer : (Option (List ℕ) → Type 0) → Program → Asked → List ℕ → Type 0
IsAnswer may_be program Help text = text ≡ program_help program
IsAnswer may_be program (HelpOf command) text = text ≡ command_help command
IsAnswer may_be program Version text = (found : Option (List ℕ)) × may_be found × (text ≡ version_text program found)

-- The writer has got the text, with status 0; or it failed, and has got less than that, with the status and the line of a device that fails.
pub record IsPut (text : List ℕ) (before written errors_before errors_written : KnownBytes) (ended : Ended) : Type 0 where
  pub end : Result (Unit {0}) Fault
  pub puts : Tells end before written text
  pub device : IfErr end (λ fault. fault ≡ Device)
  pub status : ended.status ≡ status_at end
  pub told : Tells ended.told errors_before errors_written (fault_line_at end)

-- The writer has got the answer, and the error writer nothing; or one of them failed.
abbrev pub Answers : (Option (List ℕ) → Type 0) → Program → Asked → KnownBytes → KnownBytes → KnownBytes → KnownBytes → Ended → Type 0
Answers may_be program asked before written errors_before errors_written ended =
    (text : List ℕ) × IsAnswer may_be program asked text × IsPut text before written errors_before errors_written ended
