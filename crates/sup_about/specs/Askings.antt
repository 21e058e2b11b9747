-- By which words a program is asked about itself (this project's command lines).
use Rattle.std.specs.Prelude.{ℕ, Bool, ◌||◌, List, [], ◌∷◌, Option, None, Some, option_map, if◌then◌else◌, codes}
use Rattle.std.specs.Str.{bytes_eq}
use Rattle.sup_about.specs.declared.asked.Asked.{Asked}
use Rattle.sup_about.specs.declared.asked.Asked.TheVariants.{Help, HelpOf, Version}
use Rattle.sup_about.specs.declared.asked.Command.{Command}
use Rattle.sup_about.specs.declared.asked.Command.TheVariants.{Simulate, Cluster, Place, Inspect}
use Rattle.sup_about.specs.declared.asked.Program.{Program}
use Rattle.sup_about.specs.declared.asked.Program.TheVariants.{Supctl, Supd, Supdraw}

-- a word of the command line, by its bytes
abbrev pub Word : Type 0
Word = List ℕ

abbrev pub is_help : Word → Bool
is_help word = bytes_eq word (codes "--help") || bytes_eq word (codes "-h")

-- the command of this name: supctl alone has commands
abbrev pub command_of : Program → Word → Option Command
command_of Supctl name =
    if bytes_eq name (codes "simulate") then Some Simulate
    else (if bytes_eq name (codes "cluster") then Some Cluster
    else (if bytes_eq name (codes "place") then Some Place
    else (if bytes_eq name (codes "inspect") then Some Inspect else None)))
command_of Supd name = None
command_of Supdraw name = None

-- `--help` or `-h`, or `--version`, as the only word
abbrev pub asked_by_one : Word → Option Asked
asked_by_one word = if is_help word then Some Help else (if bytes_eq word (codes "--version") then Some Version else None)

-- a command and then `--help` or `-h`
abbrev pub asked_by_two : Program → Word → Word → Option Asked
asked_by_two program name word = if is_help word then option_map HelpOf (command_of program name) else None

-- What the words behind a program's name ask about it. All other words ask nothing, so that it runs with them.
abbrev pub asked_of : Program → List Word → Option Asked
asked_of program [] = None
asked_of program (word ∷ []) = asked_by_one word
asked_of program (name ∷ word ∷ []) = asked_by_two program name word
asked_of program (name ∷ word ∷ more ∷ words) = None
