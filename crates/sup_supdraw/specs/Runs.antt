-- What a run of the program does, by its words.
use Rattle.std.specs.Prelude.{◌≡◌, ◌≢◌, List, []}
use Rattle.std.specs.declared.io.Error.{Error}
use Rattle.sup_placement.specs.Weights.{sha256_weight}
use Rattle.sup_replica.specs.Configs.{default}
use Rattle.sup_jobs.specs.declared.fault.Ended.{Ended}
use Rattle.sup_jobs.specs.Ends.{KnownBytes}
use Rattle.sup_supdraw.specs.DrawnScripts.{DrawsTo, RefusesWithout, TellsUsage}

module _ {R W E : Type 0} (remaining : R → KnownBytes) (contents : W → KnownBytes) (told : E → KnownBytes) where
  -- What a run does that was started with these words: it draws where there are none. Others are refused, and nothing is read or
  -- written.
  pub record RunsWords {X : Type 0} (words : List X) (old left : R) (before written : W) (errors_before errors_written : E) (ended : Ended) : Type 0 where
    pub draws : words ≡ [] → DrawsTo sha256_weight default (remaining old) (remaining left) (contents before) (contents written) (told errors_before) (told errors_written) ended
    pub refuses : words ≢ [] → TellsUsage (told errors_before) (told errors_written) ended
    pub unread : words ≢ [] → left ≡ old
    pub unwritten : words ≢ [] → written ≡ before

  -- What it does that was to be started with words that can't be had.
  pub record RunsWithout (error : Error) (old left : R) (before written : W) (errors_before errors_written : E) (ended : Ended) : Type 0 where
    pub refuses : RefusesWithout error (told errors_before) (told errors_written) ended
    pub unread : left ≡ old
    pub unwritten : written ≡ before
