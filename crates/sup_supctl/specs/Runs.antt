-- What a run of the program does, by its words.
use Rattle.std.specs.Prelude.{◌≡◌, ◌≢◌, ℕ, List, Option, Some, None, codes}
use Rattle.std.specs.IoError.{error_kind}
use Rattle.std.specs.declared.io.Error.{Error}
use Rattle.std.specs.declared.io.ErrorKind.TheVariants as kind
use Rattle.clap.specs.Words.{Text}
use Rattle.sup_command_line.specs.Requests.{request_of}
use Rattle.sup_command_line.specs.Weighings.{weight_of}
use Rattle.sup_command_line.specs.declared.request.Request.{Request}
use Rattle.sup_command_line.specs.declared.request.Request.TheVariants.{Simulate, Cluster, Place, Inspect}
use Rattle.sup_jobs.specs.declared.fault.Ended.{Ended}
use Rattle.sup_jobs.specs.Ends.{KnownBytes, TakesAtMost}
use Rattle.sup_clustering.specs.ClusterRuns.{RunsCluster}
use Rattle.sup_program.specs.PerformedRequests.{PerformsRequest, TellsUsage, WantsMemory}

-- A cluster is run by threads. All else is done as the commands do it that wait for nobody.
abbrev pub PerformsAll : Option Request → KnownBytes → KnownBytes → KnownBytes → KnownBytes → KnownBytes → KnownBytes → Ended → Type 0
PerformsAll (Some (Cluster weighing config)) input left before written errors_before errors_written ended =
    RunsCluster (weight_of weighing) config input left before written errors_before errors_written ended
PerformsAll (Some (Simulate weighing config)) input left before written errors_before errors_written ended =
    PerformsRequest (Some (Simulate weighing config)) input left before written errors_before errors_written ended
PerformsAll (Some (Place weighing)) input left before written errors_before errors_written ended =
    PerformsRequest (Some (Place weighing)) input left before written errors_before errors_written ended
PerformsAll (Some (Inspect weighing)) input left before written errors_before errors_written ended =
    PerformsRequest (Some (Inspect weighing)) input left before written errors_before errors_written ended
PerformsAll None input left before written errors_before errors_written ended =
    PerformsRequest None input left before written errors_before errors_written ended

-- the line on standard error where the words of the command line are no text
abbrev pub no_text_line : List ℕ
no_text_line = codes "error: invalid UTF-8 was detected in one or more arguments\n"

module _ {R W E : Type 0} (remaining : R → KnownBytes) (contents : W → KnownBytes) (told : E → KnownBytes) where
  -- What a run does that was started with these words.
  pub record RunsAll (words : List Text) (old left : R) (before written : W) (errors_before errors_written : E) (ended : Ended) : Type 0 where
    pub performs : PerformsAll (request_of words) (remaining old) (remaining left) (contents before) (contents written) (told errors_before) (told errors_written) ended
    pub taken : TakesAtMost 1048577 (remaining old) (remaining left)
    pub unread : request_of words ≡ None → left ≡ old
    pub unwritten : request_of words ≡ None → written ≡ before

  -- What it does that was to be started with words that can't be had.
  pub record RunsWithout (error : Error) (old left : R) (before written : W) (errors_before errors_written : E) (ended : Ended) : Type 0 where
    pub usage : error_kind error ≢ kind.OutOfMemory → TellsUsage no_text_line (told errors_before) (told errors_written) ended
    pub memory : error_kind error ≡ kind.OutOfMemory → WantsMemory (told errors_before) (told errors_written) ended
    pub unread : left ≡ old
    pub unwritten : written ≡ before
