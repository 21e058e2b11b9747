-- Runs that end before their input is read.
use Rattle.std.proofs.Common.{◌≡◌, ◌∙◌, List, [], Some, None, inl, inr, refl, sym, subst, arith}
use Rattle.std.specs.Prelude.{Option, Err}
use Rattle.std.specs.Io.KnownBytes.{Consumes}
use Rattle.std.proofs.lemmas.Option.{none-some}
use Rattle.clap.specs.Words.{Text}
use Rattle.sup_command_line.specs.Requests.{request_of}
use Rattle.std.proofs.KnownBytes.{Keeps-refl}
use Rattle.sup_command_line.specs.declared.request.Request.{Request}
use Rattle.sup_command_line.specs.declared.request.Request.TheVariants.{Simulate, Cluster, Place, Inspect}
use Rattle.sup_command_line.specs.Weighings.{weight_of}
use Rattle.sup_jobs.specs.declared.fault.Ended.{Ended}
use Rattle.sup_jobs.specs.declared.fault.Fault.TheVariants.{OutOfMemory}
use Rattle.sup_jobs.specs.Ends.{KnownBytes, Job, Does, TakesAtMost}
use Rattle.sup_placement.specs.Place.{Weigher}
use Rattle.sup_placing.specs.Placing.{placement}
use Rattle.sup_inspecting.specs.InspectedImages.{InspectsImage}
use Rattle.sup_program.specs.SimulatedScripts.{simulation}
use Rattle.sup_program.specs.PerformedRequests.{PerformsRequest, RefusesWords, WantsMemory}
use Rattle.sup_program.specs.Runs.{IfDone, RunsWords}
use Rattle.sup_program.specs.declared.run.Ran.{Ran}
use Rattle.sup_program.specs.declared.run.Ran.TheVariants as Ran

-- a run that was refused memory at once has taken and written nothing, whatever its input is
unstarted : {A : Type 0} (job : Job A) (input before errors_before errors_written : KnownBytes) (ended : Ended) → WantsMemory errors_before errors_written ended → Does job input input before before errors_before errors_written ended
unstarted job None before errors_before errors_written ended h = (Err OutOfMemory, h.0, h.1, ([], omega arith, tt), tt)
unstarted job (Some bytes) before errors_before errors_written ended h = (Err OutOfMemory, h.0, h.1, ([], omega arith, refl), inl (Keeps-refl before))

unlooked : (weigher : Weigher) (input before errors_before errors_written : KnownBytes) (ended : Ended) → WantsMemory errors_before errors_written ended → InspectsImage weigher input input before before errors_before errors_written ended
unlooked weigher None before errors_before errors_written ended h = (Err OutOfMemory, h.0, h.1, ([], omega arith, tt), tt)
unlooked weigher (Some bytes) before errors_before errors_written ended h = (Err OutOfMemory, h.0, h.1, ([], omega arith, refl), Keeps-refl before)

-- whatever was asked for
pub unperformed : (asked : Option Request) (input before errors_before errors_written : KnownBytes) (ended : Ended) → WantsMemory errors_before errors_written ended → PerformsRequest asked input input before before errors_before errors_written ended
unperformed None input before errors_before errors_written ended h = inr h
unperformed (Some (Simulate weighing config)) input before errors_before errors_written ended h = unstarted (simulation (weight_of weighing) config) input before errors_before errors_written ended h
unperformed (Some (Cluster weighing config)) input before errors_before errors_written ended h = (h, Keeps-refl input, Keeps-refl before)
unperformed (Some (Place weighing)) input before errors_before errors_written ended h = unstarted (placement (weight_of weighing)) input before errors_before errors_written ended h
unperformed (Some (Inspect weighing)) input before errors_before errors_written ended h = unlooked (weight_of weighing) input before errors_before errors_written ended h

-- words that ask for nothing
pub refused : (asked : Option Request) (input left before written errors_before errors_written : KnownBytes) (ended : Ended) → asked ≡ None → RefusesWords errors_before errors_written ended → PerformsRequest asked input left before written errors_before errors_written ended
refused asked input left before written errors_before errors_written ended none h = subst (λ a. PerformsRequest a input left before written errors_before errors_written ended) (sym none) h

none_taken : (input : KnownBytes) → Consumes input input []
none_taken None = tt
none_taken (Some bytes) = refl

module _ {R W E : Type 0} (remaining : R → KnownBytes) (contents : W → KnownBytes) (told : E → KnownBytes) (words : List Text) (old left : R) (before written : W) (errors_before errors_written : E) where
  -- what was asked for was done, if that waits for nobody
  pub ran_so : (ran : Ran) (request : Request) → request_of words ≡ Some request
      → IfDone ran (PerformsRequest (Some request) (remaining old) (remaining left) (contents before) (contents written) (told errors_before) (told errors_written))
      → TakesAtMost 1048577 (remaining old) (remaining left)
      → IfDone ran (RunsWords remaining contents told words old left before written errors_before errors_written)
  ran_so (Ran.Done ended) request asked h taken = record {
    performs = subst (λ a. PerformsRequest a (remaining old) (remaining left) (contents before) (contents written) (told errors_before) (told errors_written) ended) (sym asked) h;
    taken = taken;
    unread = λ none. absurd (none-some request (sym none ∙ asked));
    unwritten = λ none. absurd (none-some request (sym none ∙ asked));
  }
  ran_so (Ran.Cluster options) request asked h taken = tt

module _ {R W E : Type 0} (remaining : R → KnownBytes) (contents : W → KnownBytes) (told : E → KnownBytes) (words : List Text) (reader : R) (writer : W) (errors_before errors_written : E) where
  -- nothing was read or written
  pub unstarted_run : (ended : Ended) → PerformsRequest (request_of words) (remaining reader) (remaining reader) (contents writer) (contents writer) (told errors_before) (told errors_written) ended
      → RunsWords remaining contents told words reader reader writer writer errors_before errors_written ended
  unstarted_run ended h = record {
    performs = h;
    taken = ([], omega arith, none_taken (remaining reader));
    unread = λ _. refl;
    unwritten = λ _. refl;
  }
