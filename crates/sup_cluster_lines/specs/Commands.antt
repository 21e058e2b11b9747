-- The lines of commands (this project's script format): those of a script's steps that are acts at a node; of a step's endings they have the moment alone.
use Rattle.std.specs.Prelude.{◌&&◌, List, Option, Some, None, if◌then◌else◌}
use Rattle.sup_model.specs.declared.step.Step.{Step}
use Rattle.sup_model.specs.declared.step.Step.TheVariants.{Node as AtNode}
use Rattle.sup_plan.specs.declared.plan.Command.{Command}
use Rattle.sup_plan.specs.Plans.{may_tell}
use Rattle.sup_lines.specs.Words.{Name}
use Rattle.sup_lines.specs.declared.line.Line.{Line}
use Rattle.sup_lines.specs.declared.line.Line.TheVariants as line

-- a command that one of these nodes may be told, and no save is told to fail
abbrev pub command_in : List Name → Step → Option Command
command_in nodes (AtNode at act now saves) =
    if saves && may_tell nodes (record { node = at; act = act; now = now }) then Some (record { node = at; act = act; now = now }) else None
command_in nodes step = None

-- of what a line of a script asks for
abbrev pub command_of : List Name → Line → Option Command
command_of nodes (line.Step step) = command_in nodes step
command_of nodes _ = None
