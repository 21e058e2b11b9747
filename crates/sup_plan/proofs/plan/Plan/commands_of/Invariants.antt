use Rattle.std.proofs.Common.{◌≡◌, take}
use Rattle.sup_plan.specs.Parts.{commands_of}
use Rattle.sup_plan.proofs.plan.Plan.commands_of.Given as goal

abbrev pub invariant-loop-command : goal.invariant-loop-command
invariant-loop-command l = l.commands.items ≡ commands_of l.node (take l.command-index l.command-items)
