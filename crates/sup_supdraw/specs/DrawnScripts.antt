-- The program supdraw: the picture of a script, or a front of its text, and how it ends.
use Rattle.std.specs.Prelude.{◌≡◌, ◌≢◌, ℕ, List, drop, Result, Ok, Err, codes}
use Rattle.std.specs.Io.KnownBytes.{Appends, Keeps}
use Rattle.std.specs.IoError.{error_kind}
use Rattle.std.specs.declared.io.Error.{Error}
use Rattle.std.specs.declared.io.ErrorKind.TheVariants as kind
use Rattle.sup_placement.specs.Place.{Weigher}
use Rattle.sup_replica.specs.Configs.{Config}
use Rattle.sup_lines.specs.Script.{ScriptText, numbered_lines, script_of}
use Rattle.sup_jobs.specs.declared.fault.Ended.{Ended}
use Rattle.sup_jobs.specs.Ends.{KnownBytes, Job, Does}
use Rattle.sup_jobs.specs.Tells.{IsCutShort, Tells}
use Rattle.sup_program.specs.PerformedRequests.{WantsMemory}
use Rattle.sup_drawing.specs.Drawn.{DrawsScript}
use Rattle.sup_drawing.specs.Lines.{Captions}

-- a script, and the texts of its lines behind that of its nodes
abbrev pub with_captions : Captions → Result ScriptText ℕ → Result (ScriptText × Captions) ℕ
with_captions captions (Ok script) = Ok (script, captions)
with_captions captions (Err number) = Err number

abbrev pub captioned : List ℕ → Result (ScriptText × Captions) ℕ
captioned bytes = with_captions (drop 1 (numbered_lines bytes)) (script_of bytes)

module _ (weigher : Weigher) (config : Config) (asked : ScriptText × Captions) (before written : KnownBytes) where
  -- the writer has got the text of the script's picture
  pub record DrawsAll : Type 0 where
    pub text : List ℕ
    pub draws : DrawsScript weigher config asked.0.0 asked.1 asked.0.1 text
    pub writes : Appends before written text

  -- the device failed: the writer has got a front of it, and not all
  pub record DrawsShort : Type 0 where
    pub text : List ℕ
    pub draws : DrawsScript weigher config asked.0.0 asked.1 asked.0.1 text
    pub short : IsCutShort before written text

-- where memory is refused nothing is written
abbrev pub drawing : Weigher → Config → Job (ScriptText × Captions)
drawing weigher config = record {
  read = captioned;
  PrintsAll = λ asked before written. DrawsAll weigher config asked before written;
  PrintsShort = λ asked before written. DrawsShort weigher config asked before written;
  PrintsBefore = λ asked before written. Keeps before written;
}

-- The status tells how the run ended, and the error writer was told of that end.
abbrev pub DrawsTo : Weigher → Config → KnownBytes → KnownBytes → KnownBytes → KnownBytes → KnownBytes → KnownBytes → Ended → Type 0
DrawsTo weigher config input left before written errors_before errors_written ended =
    Does (drawing weigher config) input left before written errors_before errors_written ended

abbrev pub TellsUsage : KnownBytes → KnownBytes → Ended → Type 0
TellsUsage errors_before errors_written ended = (ended.status ≡ 2) × Tells ended.told errors_before errors_written (codes "usage: supdraw < SCRIPT > FILE.svg\n")

-- The words can't be had: they are no text, or memory was refused to them.
pub record RefusesWithout (error : Error) (errors_before errors_written : KnownBytes) (ended : Ended) : Type 0 where
  pub usage : error_kind error ≢ kind.OutOfMemory → TellsUsage errors_before errors_written ended
  pub memory : error_kind error ≡ kind.OutOfMemory → WantsMemory errors_before errors_written ended
