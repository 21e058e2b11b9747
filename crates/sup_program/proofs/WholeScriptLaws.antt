-- A whole script, from a new world.
use Rattle.std.specs.Prelude.{Bool, List}
use Rattle.sup_specs.specs.Values.{Bytes}
use Rattle.sup_placement.specs.Place.{Weigher}
use Rattle.sup_replica.specs.Configs.{Config}
use Rattle.sup_jobs.specs.Ends.{KnownBytes}
use Rattle.sup_jobs.specs.Faults.{IsOutside}
use Rattle.sup_jobs.specs.declared.fault.Fault.{Fault}
use Rattle.sup_jobs.specs.declared.fault.Fault.TheVariants.{BadLine, BadInput, BadImage, Device, OutOfMemory}
use Rattle.sup_jobs.proofs.Endings.{StopsBy}
use Rattle.sup_world.specs.Newness.{setting_in}
use Rattle.sup_world.specs.SeenNodes.{SeenNode}
use Rattle.sup_lines.specs.declared.line.Line.{Line}
use Rattle.sup_program.specs.Prints.{TellsMessages}
use Rattle.sup_program.specs.Plays.{AreInOrder, IsOpening, opening, PrintsAllFrom, PrintsAll, PrintsPart, PrintsUntil}
use Rattle.sup_program.specs.SimulatedScripts.{simulation}
use Rattle.sup_program.proofs.PlayedRunLaws.{played_worlds_keep}

-- the main theorem holds of the world after all lines
pub prints_all : (weigher : Weigher) (config : Config) (names peers : List Bytes) (sites : List SeenNode) (lines : List Line) (before written : KnownBytes) → AreInOrder names peers → IsOpening weigher config names sites → ((is_message : Bytes → Bool) → TellsMessages is_message → PrintsAllFrom weigher peers (opening weigher config names is_message sites) lines before written) → PrintsAll weigher config names lines before written
prints_all weigher config names peers sites lines before written order opens h = record {
  peers = peers;
  in_order = order;
  sites = sites;
  opens = opens;
  prints = h;
  headline = λ is_message tells. let p = h is_message tells in played_worlds_keep weigher peers (setting_in weigher config) is_message names sites lines p.printed p.final p.plays;
}

-- as far as the fault let it
pub prints_part : (weigher : Weigher) (config : Config) (names peers : List Bytes) (sites : List SeenNode) (lines : List Line) (fault : Fault) (before written : KnownBytes) → AreInOrder names peers → IsOpening weigher config names sites
    → ((is_message : Bytes → Bool) → TellsMessages is_message → PrintsUntil weigher peers (opening weigher config names is_message sites) lines before written fault) → PrintsPart weigher config names lines fault before written
prints_part weigher config names peers sites lines fault before written order opens h = record {
  peers = peers;
  in_order = order;
  sites = sites;
  opens = opens;
  prints = h;
}

pub stops_part : (weigher : Weigher) (config : Config) (names : List Bytes) (lines : List Line) (fault : Fault) (before written : KnownBytes) → IsOutside fault → PrintsPart weigher config names lines fault before written → StopsBy (simulation weigher config) (names, lines) before written fault
stops_part weigher config names lines (BadLine number) before written out h = absurd out
stops_part weigher config names lines BadInput before written out h = absurd out
stops_part weigher config names lines (BadImage reason) before written out h = absurd out
stops_part weigher config names lines Device before written out h = h
stops_part weigher config names lines OutOfMemory before written out h = h
