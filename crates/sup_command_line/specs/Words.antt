-- The commands of supctl and their options, as `clap` reads them (this project's command line).
use Rattle.std.specs.Prelude.{[], ◌∷◌, true, Some, codes}
use Rattle.clap.specs.Words.{App, Rule, Text, new_app, new_rule, with_rule, with_subcommand}
use Rattle.clap.specs.declared.builder.action.ArgAction.TheVariants.{Set}

-- --NAME VALUE, at most once, and the value where it isn't given
abbrev pub option_rule : Text → Text → Rule
option_rule name default = record (new_rule name) { long = Some name; action = Some Set; defaults = default ∷ []; value_names = 1 }

abbrev pub weigh_rule : Rule
weigh_rule = option_rule (codes "weigh") (codes "sha256")

-- Erlang/OTP's supervisor has the same two defaults
abbrev pub intensity_rule : Rule
intensity_rule = option_rule (codes "intensity") (codes "1")

abbrev pub period_rule : Rule
period_rule = option_rule (codes "period") (codes "5")

abbrev pub buffer_rule : Rule
buffer_rule = option_rule (codes "buffer") (codes "64")

-- a command of this name, with --weigh
abbrev pub weighing_command : Text → App
weighing_command name = with_rule (new_app name) weigh_rule

-- what is set for a node
abbrev pub with_settings : App → App
with_settings a = with_rule (with_rule (with_rule a intensity_rule) period_rule) buffer_rule

unfoldable pub simulate_command : App
simulate_command = with_settings (weighing_command (codes "simulate"))

unfoldable pub cluster_command : App
cluster_command = with_settings (weighing_command (codes "cluster"))

unfoldable pub place_command : App
place_command = weighing_command (codes "place")

unfoldable pub inspect_command : App
inspect_command = weighing_command (codes "inspect")

-- the first word is no program's name, and a command has to stand there
abbrev pub with_commands : App → App
with_commands a = record a { top = record a.top { subcommand_required = true; no_binary_name = true } }

-- the commands that run scripts
unfoldable pub script_commands : App
script_commands = with_subcommand (with_subcommand (with_commands (new_app (codes "supctl"))) simulate_command.top) cluster_command.top

-- supctl simulate|cluster|place|inspect
unfoldable pub supctl_app : App
supctl_app = with_subcommand (with_subcommand script_commands place_command.top) inspect_command.top
