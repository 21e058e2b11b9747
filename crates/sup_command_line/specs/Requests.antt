-- What words ask for (this project's commands and options).
use Rattle.std.specs.Prelude.{◌≡◌, ◌≢◌, ℕ, List, [], ◌∷◌, Option, Some, None, Result, Ok, Err, if◌then◌else◌, codes, option_and_then}
use Rattle.std.specs.Str.{bytes_eq}
use Rattle.clap.specs.Kinds.{Kinds}
use Rattle.clap.specs.Words.{Row, Text, first_of, fault_of, kind_of, subcommand_of}
use Rattle.clap.specs.declared.error.Error.{Error}
use Rattle.clap.specs.declared.error.kind.ErrorKind.TheVariants.{OutOfMemory}
use Rattle.sup_replica.specs.Configs.{Config, config_of}
use Rattle.sup_command_line.specs.Words.{supctl_app}
use Rattle.sup_command_line.specs.Numbers.{number_of}
use Rattle.sup_command_line.specs.Weighings.{weighing_of}
use Rattle.sup_command_line.specs.declared.request.Request.{Request}
use Rattle.sup_command_line.specs.declared.request.Request.TheVariants.{Simulate, Cluster, Place, Inspect}
use Rattle.sup_command_line.specs.declared.request.Weighing.{Weighing}

-- first one reading, then what depends on it
infixl 10 ◌>>=◌
abbrev pub ◌>>=◌ : {A B : Type 0} → Option A → (A → Option B) → Option B
o >>= f = option_and_then f o

-- the number that this option has
unfoldable pub number_in : Text → List Row → Option ℕ
number_in name options = first_of name options >>= number_of

unfoldable pub weighing_in : List Row → Option Weighing
weighing_in options = first_of (codes "weigh") options >>= weighing_of

-- what is set for a node, where all three numbers are in their limits
unfoldable pub config_in : List Row → Option Config
config_in options = do
  intensity ← number_in (codes "intensity") options
  period ← number_in (codes "period") options
  buffer ← number_in (codes "buffer") options
  config_of intensity period buffer

unfoldable pub simulation_in : List Row → Option Request
simulation_in options = do
  weighing ← weighing_in options
  config ← config_in options
  Some (Simulate weighing config)

unfoldable pub clustering_in : List Row → Option Request
clustering_in options = do
  weighing ← weighing_in options
  config ← config_in options
  Some (Cluster weighing config)

unfoldable pub placing_in : List Row → Option Request
placing_in options = do
  weighing ← weighing_in options
  Some (Place weighing)

unfoldable pub inspection_in : List Row → Option Request
inspection_in options = do
  weighing ← weighing_in options
  Some (Inspect weighing)

-- what a command asks for, by its name and its options
unfoldable pub request_in : Option (Text × List Row) → Option Request
request_in None = None
request_in (Some command) =
    if bytes_eq command.0 (codes "simulate") then simulation_in command.1 else
    (if bytes_eq command.0 (codes "cluster") then clustering_in command.1 else
    (if bytes_eq command.0 (codes "place") then placing_in command.1 else
    (if bytes_eq command.0 (codes "inspect") then inspection_in command.1 else None)))

-- nothing is asked for by words in which `clap` finds a fault
abbrev pub unless_faulty : Kinds → Option Request → Option Request
unless_faulty [] request = request
unless_faulty (kind ∷ kinds) request = None

-- what the words after the program's name ask for
unfoldable pub request_of : List Text → Option Request
request_of words = unless_faulty (fault_of supctl_app words) (request_in (subcommand_of supctl_app words))

-- what reading words may answer, by what they ask for: it, or that they ask for nothing, or want of memory
abbrev pub ReadsTo : Option Request → Result Request Error → Type 0
ReadsTo asked (Ok request) = asked ≡ Some request
ReadsTo asked (Err error) = kind_of error ≢ OutOfMemory → asked ≡ None
