-- What the lines of a script print, one after another.
use Rattle.std.specs.Prelude.{◌≡◌, ◌<◌, ℕ, Bool, List, Result, [], ◌∷◌, ◌++◌, length, take, IsSorted, IsPermutation}
use Rattle.std.specs.Io.KnownBytes.{Appends}
use Rattle.sup_specs.specs.Values.{Bytes, text_cmp}
use Rattle.sup_tables.specs.States.{State}
use Rattle.sup_placement.specs.Place.{Weigher}
use Rattle.sup_replica.specs.ByTables.{by_tables}
use Rattle.sup_replica.specs.Configs.{Config}
use Rattle.sup_replica.specs.Stations.{MailCodec}
use Rattle.sup_jobs.specs.Ends.{KnownBytes}
use Rattle.sup_jobs.specs.Tells.{IsCutShort}
use Rattle.sup_jobs.specs.declared.fault.Fault.{Fault}
use Rattle.sup_jobs.specs.declared.fault.Fault.TheVariants.{BadLine, BadInput, BadImage, Device, OutOfMemory}
use Rattle.sup_model.specs.Posts.{real_new}
use Rattle.sup_model.specs.Worlds.{WorldSetting, ModelWorld, ModelAnswer, new}
use Rattle.sup_model.specs.declared.step.Step.{Step}
use Rattle.sup_model.specs.Headline.{Headline}
use Rattle.sup_model.specs.Runs.{ModelRun, all_issued}
use Rattle.sup_replica.specs.declared.refusal.Refusal.{Refusal}
use Rattle.sup_world.specs.Newness.{setting_in}
use Rattle.sup_world.specs.SeenNodes.{SeenNode}
use Rattle.sup_world.specs.ToldAnswers.{ShowsReal}
use Rattle.sup_lines.specs.declared.line.Line.{Line}
use Rattle.sup_program.specs.Prints.{Scene, PrintsLine, TellsMessages}

module _ (weigher : Weigher) (peers : List Bytes) where
  -- From this world the lines print this and lead to that world.
  abbrev pub PlaysLines : Scene → List Line → List ℕ → Scene → Type 0
  PlaysLines s [] printed after = (printed ≡ []) × (after ≡ s)
  PlaysLines s (line ∷ lines) printed after =
      (said : List ℕ) × (mid : Scene) × (later : List ℕ) × PrintsLine weigher peers s line said mid × PlaysLines mid lines later after × (printed ≡ said ++ later)

  -- The writer has got what all of these lines print.
  pub record PrintsAllFrom (s : Scene) (lines : List Line) (before written : KnownBytes) : Type 0 where
    pub printed : List ℕ
    pub final : Scene
    pub plays : PlaysLines s lines printed final
    pub writes : Appends before written printed

  -- The device failed: the writer has got a front of what the first of these lines print, and not all.
  pub record PrintsShortFrom (s : Scene) (lines : List Line) (before written : KnownBytes) : Type 0 where
    pub made : ℕ
    pub printed : List ℕ
    pub final : Scene
    pub plays : PlaysLines s (take made lines) printed final
    pub short : IsCutShort before written printed

  -- Memory was refused for the text of a line: the writer has got what the lines before it print, and no more.
  pub record PrintsBeforeFrom (s : Scene) (lines : List Line) (before written : KnownBytes) : Type 0 where
    pub made : ℕ
    pub left : made < length lines
    pub printed : List ℕ
    pub final : Scene
    pub plays : PlaysLines s (take made lines) printed final
    pub writes : Appends before written printed

  -- How far the lines were printed that this fault ended.
  abbrev pub PrintsUntil : Scene → List Line → KnownBytes → KnownBytes → Fault → Type 0
  PrintsUntil s lines before written (BadLine number) = ⊥
  PrintsUntil s lines before written BadInput = ⊥
  PrintsUntil s lines before written (BadImage fault) = ⊥
  PrintsUntil s lines before written Device = PrintsShortFrom s lines before written
  PrintsUntil s lines before written OutOfMemory = PrintsBeforeFrom s lines before written

-- some steps of the model lead from one world to the other, and the headline holds of that
pub record LedTo (start after : ModelWorld) : Type 0 where
  pub steps : List Step
  pub answers : List (Result ModelAnswer Refusal)
  pub is_run : ModelRun start steps answers after
  pub headline : Headline steps answers after (all_issued start steps answers after is_run)

-- whatever is played from a new world, so after any lines, it is a run of the model, and the headline holds of the world after it
abbrev pub PlayedWorldsKeep : Type 0
PlayedWorldsKeep =
    (weigher : Weigher) (peers : List Bytes) (setting : WorldSetting) (is_message : Bytes → Bool) (names : List Bytes) (sites : List SeenNode) (lines : List Line) (printed : List ℕ)
    (after : Scene) → PlaysLines weigher peers (record { model = new setting is_message names; sites = sites }) lines printed after → LedTo (new setting is_message names) after.model

-- names in their order
pub record AreInOrder (names ordered : List Bytes) : Type 0 where
  pub sorted : IsSorted text_cmp ordered
  pub all : IsPermutation names ordered

-- nodes of these names: a new world of the definitions
abbrev pub IsOpening : Weigher → Config → List Bytes → List SeenNode → Type 0
IsOpening weigher config names sites =
    (codec : MailCodec State) → ShowsReal weigher sites (real_new by_tables (setting_in weigher config) config.buffer codec names)

-- the new world of these nodes, whichever way the bytes that are a message are told
abbrev pub opening : Weigher → Config → List Bytes → (Bytes → Bool) → List SeenNode → Scene
opening weigher config names is_message sites = record { model = new (setting_in weigher config) is_message names; sites = sites }

-- from a new world of these nodes, which are each other's peers; and the main theorem holds of the world after all lines
pub record PrintsAll (weigher : Weigher) (config : Config) (names : List Bytes) (lines : List Line) (before written : KnownBytes) : Type 0 where
  pub peers : List Bytes
  pub in_order : AreInOrder names peers
  pub sites : List SeenNode
  pub opens : IsOpening weigher config names sites
  pub prints : (is_message : Bytes → Bool) → TellsMessages is_message → PrintsAllFrom weigher peers (opening weigher config names is_message sites) lines before written
  pub headline : (is_message : Bytes → Bool) (tells : TellsMessages is_message) → LedTo (opening weigher config names is_message sites).model (prints is_message tells).final.model

-- from such a world, as far as the fault let it
pub record PrintsPart (weigher : Weigher) (config : Config) (names : List Bytes) (lines : List Line) (fault : Fault) (before written : KnownBytes) : Type 0 where
  pub peers : List Bytes
  pub in_order : AreInOrder names peers
  pub sites : List SeenNode
  pub opens : IsOpening weigher config names sites
  pub prints : (is_message : Bytes → Bool) → TellsMessages is_message → PrintsUntil weigher peers (opening weigher config names is_message sites) lines before written fault
