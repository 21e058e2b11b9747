-- What a run of the commands that wait for nobody does, by its words.
use Rattle.std.specs.Prelude.{◌≡◌, ℕ, List, None, Result}
use Rattle.clap.specs.Words.{Text}
use Rattle.sup_command_line.specs.Requests.{request_of}
use Rattle.sup_jobs.specs.declared.fault.Ended.{Ended}
use Rattle.sup_jobs.specs.declared.output.DeviceFault.{DeviceFault}
use Rattle.sup_jobs.specs.Ends.{KnownBytes, TakesAtMost}
use Rattle.sup_program.specs.PerformedRequests.{PerformsRequest}
use Rattle.sup_program.specs.declared.run.Ran.{Ran}
use Rattle.sup_program.specs.declared.run.Ran.TheVariants.{Done, Cluster}
use Rattle.sup_program.specs.declared.run.Options.{Options}

-- a run that is done, and ended so
abbrev pub IfDone : Ran → (Ended → Type 0) → Type 0
IfDone (Done ended) Is = Is ended
IfDone (Cluster options) Is = Unit {0}

-- a run that is still to be done by threads
abbrev pub IfCluster : Ran → (Options → Type 0) → Type 0
IfCluster (Done ended) Is = Unit {0}
IfCluster (Cluster options) Is = Is options

-- The program ends with this status, and knows this of whether the error writer took all that it was told, as its run ended.
abbrev pub ExitsBy : ℕ → Result (Unit {0}) DeviceFault → (Ended → Type 0) → Type 0
ExitsBy status told Is = (ended : Ended) × (ended.status ≡ status) × (ended.told ≡ told) × Is ended

module _ {R W E : Type 0} (remaining : R → KnownBytes) (contents : W → KnownBytes) (told : E → KnownBytes) where
  -- What a run does that was started with these words.
  pub record RunsWords (words : List Text) (old left : R) (before written : W) (errors_before errors_written : E) (ended : Ended) : Type 0 where
    pub performs : PerformsRequest (request_of words) (remaining old) (remaining left) (contents before) (contents written) (told errors_before) (told errors_written) ended
    pub taken : TakesAtMost 1048577 (remaining old) (remaining left)
    pub unread : request_of words ≡ None → left ≡ old
    pub unwritten : request_of words ≡ None → written ≡ before
