-- What the commands that wait for nobody do is what a run does, and so is what a cluster does.
use Rattle.std.proofs.Common.{◌≡◌, List, [], Option, Some, None, Err, sym, subst, ◌∙◌, arith}
use Rattle.std.specs.Io.KnownBytes.{Consumes, Keeps}
use Rattle.std.proofs.lemmas.Option.{none-some}
use Rattle.clap.specs.Words.{Text}
use Rattle.sup_placement.specs.Place.{Weigher}
use Rattle.sup_replica.specs.Configs.{Config}
use Rattle.sup_command_line.specs.Requests.{request_of}
use Rattle.sup_command_line.specs.Weighings.{weight_of}
use Rattle.sup_command_line.specs.declared.request.Request.{Request}
use Rattle.sup_command_line.specs.declared.request.Request.TheVariants.{Simulate, Cluster, Place, Inspect}
use Rattle.sup_command_line.specs.declared.request.Weighing.{Weighing}
use Rattle.sup_jobs.specs.declared.fault.Ended.{Ended}
use Rattle.sup_jobs.specs.declared.fault.Fault.TheVariants as job
use Rattle.sup_jobs.specs.Ends.{KnownBytes, TakesAtMost}
use Rattle.sup_clustering.specs.ClusterRuns.{RunsCluster}
use Rattle.sup_cluster_texts.specs.declared.fault.ClusterFault.TheVariants.{Job}
use Rattle.sup_program.specs.PerformedRequests.{PerformsRequest, WantsMemory}
use Rattle.sup_program.specs.Runs.{RunsWords}
use Rattle.sup_supctl.specs.Runs.{PerformsAll, RunsAll}

none_taken : (input left : KnownBytes) → Keeps input left → Consumes input left []
none_taken None left h = tt
none_taken (Some bytes) None h = h
none_taken (Some bytes) (Some rest) h = sym h

-- a cluster for which memory was refused before it began
unbegun : (weigher : Weigher) (config : Config) (input left before written errors_before errors_written : KnownBytes) (ended : Ended) → WantsMemory errors_before errors_written ended → Keeps input left → Keeps before written → RunsCluster weigher config input left before written errors_before errors_written ended
unbegun weigher config None left before written errors_before errors_written ended h read kept = (Err (Job job.OutOfMemory), h.0, h.1, ([], omega arith, none_taken None left read), tt)
unbegun weigher config (Some bytes) left before written errors_before errors_written ended h read kept = (Err (Job job.OutOfMemory), h.0, h.1, ([], omega arith, none_taken (Some bytes) left read), kept)

performed : (asked : Option Request) (input left before written errors_before errors_written : KnownBytes) (ended : Ended) → PerformsRequest asked input left before written errors_before errors_written ended → PerformsAll asked input left before written errors_before errors_written ended
performed None input left before written errors_before errors_written ended h = h
performed (Some (Simulate weighing config)) input left before written errors_before errors_written ended h = h
performed (Some (Cluster weighing config)) input left before written errors_before errors_written ended h = unbegun (weight_of weighing) config input left before written errors_before errors_written ended h.0 h.1 h.2
performed (Some (Place weighing)) input left before written errors_before errors_written ended h = h
performed (Some (Inspect weighing)) input left before written errors_before errors_written ended h = h

module _ {R W E : Type 0} (remaining : R → KnownBytes) (contents : W → KnownBytes) (told : E → KnownBytes) (words : List Text) (old left : R) (before written : W) (errors_before errors_written : E) where
  pub all : (ended : Ended) → RunsWords remaining contents told words old left before written errors_before errors_written ended → RunsAll remaining contents told words old left before written errors_before errors_written ended
  all ended h = record {
    performs = performed (request_of words) (remaining old) (remaining left) (contents before) (contents written) (told errors_before) (told errors_written) ended h.performs;
    taken = h.taken;
    unread = h.unread;
    unwritten = h.unwritten;
  }

  -- a cluster began where nothing was read or written
  pub clustered : (mid : R) (kept : W) (quiet : E) (weighing : Weighing) (config : Config) (ended : Ended) → request_of words ≡ Some (Cluster weighing config)
      → mid ≡ old → kept ≡ before → quiet ≡ errors_before
      → RunsCluster (weight_of weighing) config (remaining mid) (remaining left) (contents kept) (contents written) (told quiet) (told errors_written) ended
      → TakesAtMost 1048577 (remaining mid) (remaining left)
      → RunsAll remaining contents told words old left before written errors_before errors_written ended
  clustered mid kept quiet weighing config ended asked unread unwritten untold does taken =
      let read = subst (λ r. RunsCluster (weight_of weighing) config (remaining r) (remaining left) (contents kept) (contents written) (told quiet) (told errors_written) ended) unread does in
      let wrote = subst (λ w. RunsCluster (weight_of weighing) config (remaining old) (remaining left) (contents w) (contents written) (told quiet) (told errors_written) ended) unwritten read in
      let tells = subst (λ e. RunsCluster (weight_of weighing) config (remaining old) (remaining left) (contents before) (contents written) (told e) (told errors_written) ended) untold wrote in
      record {
        performs = subst (λ a. PerformsAll a (remaining old) (remaining left) (contents before) (contents written) (told errors_before) (told errors_written) ended) (sym asked) tells;
        taken = subst (λ r. TakesAtMost 1048577 (remaining r) (remaining left)) unread taken;
        unread = λ none. absurd (none-some (Cluster weighing config) (sym none ∙ asked));
        unwritten = λ none. absurd (none-some (Cluster weighing config) (sym none ∙ asked));
      }
